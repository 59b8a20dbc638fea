pub mod Alters
pub mod Lower
pub mod Steps
