pub mod Steps
pub mod Decides
pub mod Reached
pub mod Firsts
pub mod Lines
