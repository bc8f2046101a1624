pub mod Asked
pub mod Sides
pub mod Scatter
pub mod Moves
pub mod Legs
pub use Rattle.idx_geom.specs.Region
pub use Rattle.idx_hz.specs.Address
pub use Rattle.idx_hz.specs.Answer
