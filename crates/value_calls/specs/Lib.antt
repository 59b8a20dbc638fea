pub mod Answered
pub mod Calls
pub mod Integers
pub mod Laws
pub mod Made
pub mod Operators
pub mod Same
pub mod Traps
