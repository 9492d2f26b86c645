pub mod Groups
pub mod Runs
