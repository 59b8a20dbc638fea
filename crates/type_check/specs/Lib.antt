pub mod Scoped
pub mod Answers
