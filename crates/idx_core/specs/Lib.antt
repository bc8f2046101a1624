pub mod World
pub mod NewWorld
