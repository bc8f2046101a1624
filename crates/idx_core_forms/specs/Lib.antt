pub mod Held
pub mod Step
