pub mod WholeLemmas
pub mod FileLemmas
pub mod FitLemmas
pub mod DeliverLemmas
