pub mod Joined
pub mod Counter
pub mod Moments
