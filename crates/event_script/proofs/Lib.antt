pub mod Splitting
pub mod Numbering
pub mod Progressing
