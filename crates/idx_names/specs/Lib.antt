pub mod Numeral
pub mod Pieces
pub mod Template
pub mod Building
pub mod TimeTemplate
pub mod Path
