pub mod Deliver
pub use Rattle.idx_dock.specs.Dock
pub use Rattle.idx_dock.specs.Next
pub use Rattle.idx_pieces.specs.Pieces
pub use Rattle.idx_pieces.specs.Runs
pub use Rattle.idx_header.specs.Header
