pub mod Counts
pub mod Known
pub mod Convert
pub mod Stages
