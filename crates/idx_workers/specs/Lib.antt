pub mod Workers
pub mod Jobs
