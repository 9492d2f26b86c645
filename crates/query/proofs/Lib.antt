pub mod Lists
pub mod Takes
