pub mod Widths
pub mod Two
