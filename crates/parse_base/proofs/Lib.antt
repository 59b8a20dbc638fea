pub mod Laws
pub mod Turns
pub mod Seen
pub mod Readings
