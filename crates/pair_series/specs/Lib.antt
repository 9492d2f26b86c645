pub mod Answers
pub mod pair_parts
pub mod pair_rows
