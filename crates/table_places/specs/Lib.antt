pub mod Apps
pub mod Bodies
pub mod Members
pub mod Places
pub mod Preferences
