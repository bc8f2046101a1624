pub mod Grid
pub mod LevelGrid
pub mod Block
