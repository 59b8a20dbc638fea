pub mod Blocks
pub mod Members
pub mod Tests
pub mod Units
pub mod Values
