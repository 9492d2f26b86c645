pub mod Vecop
pub mod Examples
pub mod frame
pub mod label_text
pub mod outcome_text
