pub mod Few
pub mod Passed
pub mod Rests
