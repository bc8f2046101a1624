pub mod Stored
pub mod Tables
pub mod Loaded
pub mod Worked
pub mod Asked
pub mod Reads
pub mod Newest
