pub mod Grouping
pub mod Arms
pub mod Plans
