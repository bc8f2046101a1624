pub mod Blocks
pub mod Rounds
pub mod Steps
pub mod Fault
pub mod Answered
pub mod Reads
pub mod Capacity
