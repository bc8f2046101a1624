pub mod RawLemmas
pub mod FolderLemmas
