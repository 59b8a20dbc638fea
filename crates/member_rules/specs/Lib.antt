pub mod Shapes
pub mod Members
pub mod Search
pub mod Laws
