pub mod Coding
pub mod Listing
