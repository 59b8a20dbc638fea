pub mod Guides
pub mod Counts
