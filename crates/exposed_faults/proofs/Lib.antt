pub mod Labels
pub mod Readings
