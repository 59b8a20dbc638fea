pub mod Firsts
pub mod Rules
pub mod StmtFirsts
pub mod StmtRules
pub mod Knot
pub mod Ladder
pub mod AheadTurns
