pub mod Contexts
pub mod Levels
pub mod Names
pub mod Ops
