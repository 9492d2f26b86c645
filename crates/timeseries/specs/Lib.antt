pub mod Takes
pub mod TakeLaws
pub mod label_reader
pub mod record_walk
