pub mod Known
pub mod Blanks
