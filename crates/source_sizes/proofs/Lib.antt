pub mod Takes
pub mod Rules
pub mod Texts
