pub mod Mergeable
