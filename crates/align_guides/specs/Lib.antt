pub mod Lengths
pub mod Guides
