pub mod Checking
pub mod Sole
