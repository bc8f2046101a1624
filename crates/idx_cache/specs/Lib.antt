pub mod Indexed
pub mod Slotted
pub mod Cached
