pub mod Codes
pub mod left_series
pub mod set_operators
pub mod set_listing
