pub mod SideLemmas
pub mod OrderLemmas
pub mod MoveLemmas
pub mod AskedLemmas
pub mod PointLemmas
pub mod LevelLemmas
pub mod LanesLemmas
pub mod PaceLemmas
