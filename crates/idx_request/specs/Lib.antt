pub mod Pairs
pub mod Asked
pub mod Faults
pub mod Kept
