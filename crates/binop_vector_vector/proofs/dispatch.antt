pub mod Verdicts
pub mod Matched
