pub mod NotedLemmas
pub mod FoundLemmas
pub mod RoundLemmas
pub mod LookLemmas
pub mod HeldLemmas
