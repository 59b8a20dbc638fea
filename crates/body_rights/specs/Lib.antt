pub mod Begins
pub mod Runs
pub mod Stands
pub mod Bodies
