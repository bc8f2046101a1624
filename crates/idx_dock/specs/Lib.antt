pub mod Dock
pub mod Content
pub mod Room
pub mod Next
pub mod Worked
pub use Rattle.idx_pieces.specs.Pieces
pub use Rattle.idx_pieces.specs.Runs
pub use Rattle.idx_header.specs.Header
