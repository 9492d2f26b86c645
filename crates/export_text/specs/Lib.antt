pub mod Lines
pub mod Found
pub mod Exports
