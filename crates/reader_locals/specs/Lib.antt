pub mod AlterLayers
pub mod ItemAlters
pub mod Filled
pub mod Terms
pub mod Statements
