pub mod Sources
pub mod Asks
pub mod Places
pub mod Means
pub mod Trees
pub mod Public
