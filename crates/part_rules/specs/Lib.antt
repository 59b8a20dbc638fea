pub mod Typed
pub mod Checks
pub mod Founds
pub mod Writers
pub mod Laws
