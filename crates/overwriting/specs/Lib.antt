pub mod Overwriting
pub mod OverLaws
pub mod Several
pub mod Marks
pub mod MarkLaws
