pub mod Codes
pub mod Planning
pub mod Coding
