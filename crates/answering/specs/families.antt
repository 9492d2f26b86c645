pub mod Codes
pub mod Plans
