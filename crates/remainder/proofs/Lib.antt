pub mod Values
pub mod Parts
pub mod Powers
pub mod Scales
pub mod Special
