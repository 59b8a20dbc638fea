pub mod Fits
pub mod LawProofs
pub mod SameLemmas
pub mod TextLemmas
pub mod Weighs
