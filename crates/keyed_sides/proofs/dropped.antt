pub mod Dropping
pub mod Missing
