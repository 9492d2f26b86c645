pub mod Leaders
pub mod Buckets
pub mod Marking
