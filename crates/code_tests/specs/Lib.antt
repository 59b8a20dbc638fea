pub mod CodeFits
pub mod Homes
pub mod Parts
