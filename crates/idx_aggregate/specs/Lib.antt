pub mod Docks
pub mod Shipping
pub mod Jobs
pub use Rattle.idx_dock.specs.Dock
pub use Rattle.idx_dock.specs.Content
pub use Rattle.idx_ranks.specs.Loads
pub use Rattle.idx_pieces.specs.Pieces
pub use Rattle.idx_header.specs.Header
