pub mod Loops
pub mod Forms
pub mod Runs
pub mod Actions
pub mod Laws
