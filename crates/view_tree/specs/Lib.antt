pub mod Counts
pub mod Standing
pub mod Trees
pub mod Descriptions
