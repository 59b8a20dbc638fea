pub mod Spelt
pub mod Signs
pub mod Programs
