pub mod Posts
pub mod Hall
pub mod Looked
pub mod Calls
pub mod Examples
