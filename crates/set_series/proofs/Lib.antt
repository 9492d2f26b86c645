pub mod Rows
pub mod Masks
