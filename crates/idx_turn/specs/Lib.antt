pub mod Stands
pub mod LockId
pub mod SoloValue
pub mod Examples
