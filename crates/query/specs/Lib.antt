pub mod Queries
pub mod operator_table
pub mod list_ends
pub mod aggregations
