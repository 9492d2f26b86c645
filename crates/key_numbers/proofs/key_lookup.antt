pub mod Finding
pub mod Noting
