pub mod Inputs
pub mod Levels
pub mod Runs
