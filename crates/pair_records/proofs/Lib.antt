pub mod Adjusting
pub mod Records
