pub mod Cutting
pub mod Fitting
pub mod Spelling
pub mod Tapping
