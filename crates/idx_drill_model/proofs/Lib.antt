pub mod BoxLemmas
pub mod NeededLemmas
pub mod RoundLemmas
pub mod CacheLemmas
pub mod TakenLemmas
pub mod HeaderLemmas
pub mod ReadingLemmas
