pub mod Keys
pub mod Passing
