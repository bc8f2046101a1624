pub mod Layers
pub mod Headline
