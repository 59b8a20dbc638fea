pub mod Turns
pub mod Members
pub mod Pieces
pub mod Parts
