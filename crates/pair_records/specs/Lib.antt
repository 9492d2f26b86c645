pub mod adjusted_labels
pub mod Records
