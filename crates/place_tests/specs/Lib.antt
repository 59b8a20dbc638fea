pub mod Asked
pub mod Demands
pub mod Nested
pub mod Walks
