pub mod Stored
pub mod Tiles
pub use Rattle.idx_layout.specs.Placing
pub use Rattle.idx_layout.specs.OfHeader
pub use Rattle.idx_geom.specs.Volume
pub use Rattle.idx_header.specs.Header
