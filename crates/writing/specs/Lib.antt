pub mod Written
pub mod Measured
