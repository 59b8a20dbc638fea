pub mod Verdict
pub mod Unique
pub mod Laws
