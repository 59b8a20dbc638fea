pub mod Twice
pub mod Held
pub mod Deep
pub mod Rounds
