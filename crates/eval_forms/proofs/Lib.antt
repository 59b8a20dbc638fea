pub mod Stops
pub mod Turns
pub mod Promotions
pub mod Counts
