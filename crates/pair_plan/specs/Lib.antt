pub mod pairs
pub mod pair_checks
