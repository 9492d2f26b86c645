pub mod Namings
