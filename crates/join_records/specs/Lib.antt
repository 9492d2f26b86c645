pub mod Edits
pub mod Records
