pub mod Claims
pub mod Settled
