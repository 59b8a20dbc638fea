pub mod Brackets
pub mod Items
pub mod Runs
pub mod Spellings
pub mod Tokens
pub mod Words
