pub mod Stages
pub mod Host
