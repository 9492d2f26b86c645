pub mod Tables
pub mod Putting
