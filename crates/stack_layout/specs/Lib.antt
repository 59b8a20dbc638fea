pub mod Views
pub mod Stacks
pub mod InTurn
pub mod Slots
