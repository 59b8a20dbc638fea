pub mod Right
pub mod Weighs
