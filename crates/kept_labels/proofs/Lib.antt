pub mod Sizes
pub mod Puts
