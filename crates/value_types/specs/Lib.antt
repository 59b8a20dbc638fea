pub mod Kinds
pub mod Types
pub mod Exprs
pub mod Posts
pub mod Levels
pub mod Tables
