pub mod Works
pub mod Queries
pub mod Series
pub mod join_rows
