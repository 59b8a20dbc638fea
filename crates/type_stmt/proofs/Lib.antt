pub mod Turns
pub mod Around
pub mod Forms
