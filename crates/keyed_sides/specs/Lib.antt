pub mod Dropped
pub mod TakenSides
pub mod KeyNumbers
pub mod Keyed
