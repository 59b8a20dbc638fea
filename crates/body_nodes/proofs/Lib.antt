pub mod Blocks
pub mod Counting
pub mod Counts
pub mod Leads
pub mod Parted
pub mod Runs
pub mod Turns
