pub mod Text
pub mod Told
