pub mod Beside
pub mod Wide
