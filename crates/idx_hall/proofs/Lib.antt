pub mod KeyLemmas
pub mod NewestLemmas
pub mod DropLemmas
pub mod HallLemmas
pub mod CopyLemmas
