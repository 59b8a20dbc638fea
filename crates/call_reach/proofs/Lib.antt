pub mod Turns
pub mod Members
pub mod Marking
pub mod Least
