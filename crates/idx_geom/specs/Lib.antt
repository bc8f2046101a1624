pub mod Padded
pub mod Point
pub mod PointFields
pub mod Region
pub mod RegionFields
pub mod Volume
