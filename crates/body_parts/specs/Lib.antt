pub mod Arms
pub mod Nests
pub mod Shapes
