pub mod Names
pub mod Matchings
