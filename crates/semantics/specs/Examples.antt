pub mod Notation
pub mod Refusals
pub mod OneToOne
pub mod Joins
pub mod Allowances
pub mod SetRules
pub mod Aggregates
pub mod Exports
