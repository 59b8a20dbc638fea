pub mod Guides
pub mod Values
