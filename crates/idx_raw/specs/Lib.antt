pub mod Reads
pub mod Cut
