pub mod Drill
pub mod Blocks
pub mod Cache
