pub mod Words
pub mod Output
pub mod Refusals
pub mod Ends
pub mod Table
pub mod Checking
