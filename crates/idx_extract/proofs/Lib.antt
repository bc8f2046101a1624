pub mod AskLemmas
pub mod AloneLemmas
pub mod StoredLemmas
pub mod CauseLemmas
