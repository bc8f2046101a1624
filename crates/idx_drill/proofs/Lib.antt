pub mod DatasetLemmas
pub mod EventLemmas
pub mod WritingLemmas
pub mod AskLemmas
pub mod FewLemmas
pub mod DivideLemmas
pub mod ReplayLemmas
pub mod WorldLemmas
