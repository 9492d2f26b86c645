pub mod Values
pub mod Faults
pub mod Text
pub mod Computing
pub mod Laws
pub mod Ascii
pub mod Examples
