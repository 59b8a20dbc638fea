pub mod Words
pub mod Trees
pub mod Types
pub mod Patterns
