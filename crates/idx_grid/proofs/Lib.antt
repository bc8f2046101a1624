pub mod BlockShapeLemmas
pub mod BoxLemmas
pub mod GridLemmas
pub mod LevelGridLemmas
