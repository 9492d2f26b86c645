pub mod Frames
pub mod Sides
pub mod SideLaws
pub mod Found
