pub mod Founds
pub mod Answers
pub mod Marks
