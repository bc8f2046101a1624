pub mod BeginsLemmas
pub mod HoldsLemmas
