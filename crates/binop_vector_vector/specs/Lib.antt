pub mod Stages
pub mod dispatch
