pub mod Values
pub mod Tags
pub mod Labels
