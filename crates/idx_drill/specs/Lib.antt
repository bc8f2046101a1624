pub mod Drilled
pub mod Runs
