pub mod Overwriting
