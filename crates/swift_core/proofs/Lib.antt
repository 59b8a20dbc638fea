mod Blocks
pub mod Writers
