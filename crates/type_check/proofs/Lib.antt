pub mod Parameters
pub mod Decided
