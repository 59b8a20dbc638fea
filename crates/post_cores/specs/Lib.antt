pub mod Calls
pub mod Chains
pub mod Fillings
pub mod Members
pub mod Names
pub mod Reading
pub mod States
