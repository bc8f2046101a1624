pub mod PairLemmas
pub mod FieldLemmas
pub mod AskLemmas
