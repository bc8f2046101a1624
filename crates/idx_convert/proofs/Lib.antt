pub mod FirstLemmas
pub mod NextLemmas
pub mod StageLemmas
