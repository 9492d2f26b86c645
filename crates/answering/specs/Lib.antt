pub mod families
