pub mod Plans
pub mod Coding
