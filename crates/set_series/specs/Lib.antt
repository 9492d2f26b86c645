pub mod set_points
pub mod left_rows
pub mod Series
