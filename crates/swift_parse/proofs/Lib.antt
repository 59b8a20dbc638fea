pub mod Sides
pub mod Split
pub mod Rules
pub mod PieceRules
pub mod Knowledge
pub mod Files
