pub mod Parts
pub mod Named
pub mod Lengths
pub mod Guides
pub mod Arguments
pub mod Values
pub mod Laws
