pub mod Makings
pub mod Options
pub mod Turns
