pub mod Filled
pub mod Items
pub mod Parts
pub mod Pieces
pub mod Room
