pub mod NumberLemmas
pub mod RunLemmas
pub mod BoxLemmas
pub mod TrimLemmas
pub mod LineLemmas
pub mod TextLemmas
pub mod GrowingLemmas
pub mod EntryLemmas
