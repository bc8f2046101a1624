pub mod Live
pub mod Pair
pub mod Sides
pub mod Stages
