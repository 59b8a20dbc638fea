pub mod Rules
pub mod Search
pub mod Exacts
pub mod Finds
pub mod Laws
