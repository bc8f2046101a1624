pub mod LiveLemmas
pub mod PairLemmas
pub mod SideLemmas
pub mod StageLemmas
