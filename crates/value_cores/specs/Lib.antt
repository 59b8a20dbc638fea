pub mod Effects
pub mod Values
