pub mod Pieces
pub mod App
pub mod Script
pub mod Faults
