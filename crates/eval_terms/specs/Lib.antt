pub mod Arms
pub mod Nests
