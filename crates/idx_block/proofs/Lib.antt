pub mod StoredLemmas
pub mod BlockLemmas
pub mod FirstLemmas
pub mod RowsLemmas
pub mod TilesLemmas
pub mod TileLemmas
