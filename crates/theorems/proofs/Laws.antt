pub mod Members
pub mod Order
pub mod Renumber
pub mod Sound
pub mod Answered
pub mod Groups
