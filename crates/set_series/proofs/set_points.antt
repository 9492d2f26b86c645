pub mod Searching
pub mod Points
pub mod Leaving
pub mod Rules
