pub mod Written
pub mod Axis
pub mod Spread
pub mod Copies
pub mod Lanes
