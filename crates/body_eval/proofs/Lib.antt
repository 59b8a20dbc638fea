pub mod Ends
pub mod Entering
pub mod Locals
pub mod Turns
