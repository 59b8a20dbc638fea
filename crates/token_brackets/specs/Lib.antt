pub mod Brackets
pub mod Balance
pub mod Depth
pub mod Machine
pub mod Piece
pub mod PieceLength
pub mod Prefix
pub mod Counting
