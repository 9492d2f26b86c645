pub mod Tallies
pub mod Writing
pub mod Rows
pub mod Concluding
pub mod Planning
pub mod Numbering
