pub mod TagsRead
pub mod RecordsRead
