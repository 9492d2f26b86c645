pub mod running
pub mod points
pub mod Groups
