pub mod MadeLemmas
pub mod FileLemmas
pub mod DockLemmas
pub mod JoinLemmas
