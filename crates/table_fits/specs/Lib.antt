pub mod Fills
pub mod Fitting
pub mod Forms
pub mod Named
pub mod Nils
pub mod Starts
