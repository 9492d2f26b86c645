pub mod Merging
pub mod Numbers
pub mod Fallback
pub mod Verdicts
pub mod Fitting
