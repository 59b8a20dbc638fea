pub mod Reaching
pub mod Callers
pub mod Visits
