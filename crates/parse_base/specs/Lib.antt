pub mod Tokens
pub mod Spans
pub mod Parser
pub mod Language
pub mod Terminals
pub mod Answers
