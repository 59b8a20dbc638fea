pub mod Sound
pub mod Safe
pub mod Gives
pub mod Homes
pub mod Terms
pub mod Nodes
