pub mod Conditions
pub mod Cases
pub mod Flows
pub mod Statements
pub mod Laws
