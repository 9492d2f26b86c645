pub mod Buckets
pub mod Firsts
pub mod Keys
pub mod KeyLaws
pub mod Rules
