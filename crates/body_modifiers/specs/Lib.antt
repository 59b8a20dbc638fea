pub mod Makings
pub mod Stands
