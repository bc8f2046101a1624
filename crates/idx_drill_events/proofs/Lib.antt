pub mod PairLemmas
pub mod RunLemmas
pub mod WriteLemmas
pub mod AskLemmas
pub mod MoreLemmas
pub mod DrillLemmas
pub mod WorkedLemmas
