pub mod Walk
pub mod Progression
