pub mod SlotLemmas
pub mod Offers
pub mod Turns
pub mod Places
pub mod EdgeLemmas
pub mod Law
pub mod Groups
pub mod Fits
