pub mod Coding
pub mod Planning
