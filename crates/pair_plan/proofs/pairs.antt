pub mod Pairing
pub mod Lists
