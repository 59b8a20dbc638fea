pub mod KeyLaws
pub mod PatternLaws
pub mod Numbers
pub mod Turns
