pub mod Outcomes
pub mod Valid
pub mod Dealing
pub mod Partition
pub mod Prometheus
pub mod Aggregates
pub mod Exports
