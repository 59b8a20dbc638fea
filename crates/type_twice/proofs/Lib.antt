pub mod Repeats
pub mod Whole
pub mod Depths
