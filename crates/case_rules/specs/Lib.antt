pub mod Each
pub mod Layers
pub mod Scopes
pub mod Conditions
pub mod Overs
pub mod Patterns
pub mod Cases
pub mod Laws
