pub mod Partition
pub mod Words
pub mod Outcomes
pub mod Valid
pub mod Examples
