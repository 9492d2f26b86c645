pub mod Dispatch
pub mod Floats
pub mod Zipping
