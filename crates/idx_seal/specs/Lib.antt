pub mod Bay
pub mod Rows
pub mod Files
pub mod Jobs
