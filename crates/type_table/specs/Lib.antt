pub mod Along
pub mod Heads
pub mod Signatures
pub mod Tables
