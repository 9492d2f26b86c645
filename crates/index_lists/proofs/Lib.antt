pub mod Between
pub mod Noting
pub mod Meeting
