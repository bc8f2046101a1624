pub mod ListLemmas
pub mod GridLemmas
pub mod PlaceLemmas
pub mod LevelTests
pub mod BoundLemmas
pub mod WalkLemmas
pub mod StepLemmas
pub mod PointByPoint
