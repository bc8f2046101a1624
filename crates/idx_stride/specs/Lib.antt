pub mod Compact
pub mod Counts
pub mod Parts
pub mod Places
pub mod Strides
pub mod StridesFields
pub mod Written
