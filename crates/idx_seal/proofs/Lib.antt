pub mod BayLemmas
pub mod RowLemmas
