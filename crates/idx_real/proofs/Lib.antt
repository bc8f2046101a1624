pub mod FolderLemmas
pub mod PlacedLemmas
pub mod ReadLemmas
