pub mod FindLemmas
pub mod NewestLemmas
pub mod AskLemmas
pub mod TextLemmas
pub mod DoorLemmas
pub mod BoardLemmas
mod OnceLemmas
