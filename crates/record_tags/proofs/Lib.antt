pub mod Cursors
pub mod Sizes
