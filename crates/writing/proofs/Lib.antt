pub mod Written
pub mod Runs
pub mod Again
