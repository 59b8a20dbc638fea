pub mod Changes
pub mod Opens
pub mod Turns
