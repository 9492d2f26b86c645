pub mod Lenient
pub mod Cursors
