pub mod Calls
pub mod Chains
pub mod Exacts
pub mod Members
pub mod Places
pub mod Syntax
