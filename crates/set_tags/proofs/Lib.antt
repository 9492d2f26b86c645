pub mod Sizes
pub mod Loops
pub mod Counts
