pub mod Sides
pub mod SideLaws
pub mod Lent
