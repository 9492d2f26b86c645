pub mod Keys
pub mod Merging
pub mod Conclude
pub mod Pairs
pub mod Joins
pub mod Sets
pub mod Aggregates
pub mod Laws
