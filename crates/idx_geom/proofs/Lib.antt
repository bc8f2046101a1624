pub mod PointsLemmas
pub mod EndsLemmas
pub mod LiesInLemmas
pub mod RegionSteps
pub mod VolumeLemmas
pub mod PaddedLemmas
