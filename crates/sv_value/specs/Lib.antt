pub mod HopLaws
pub mod Hops
pub mod Joined
pub mod Names
pub mod Print
pub mod Value
