pub mod Extract
pub mod Stages
