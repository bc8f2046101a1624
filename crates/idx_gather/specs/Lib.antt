pub mod Gather
pub mod Windows
pub mod States
pub mod Streams
pub mod Causes
pub mod Bytes
