pub mod Filled
pub mod Pieces
