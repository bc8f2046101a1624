pub mod Volumes
pub use Rattle.idx_geom.specs.Volume
pub use Rattle.idx_layout.specs.Files
pub use Rattle.idx_layout.specs.Placing
