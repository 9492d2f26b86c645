pub mod Widths
pub mod Merged
