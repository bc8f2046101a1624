pub mod FaultLemmas
pub mod ReadBackLemmas
