pub mod Checks
pub mod Levels
pub mod Ops
pub mod OpsExact
pub mod OpsSearch
