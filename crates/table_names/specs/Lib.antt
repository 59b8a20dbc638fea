pub mod Codes
pub mod Lists
pub mod Names
pub mod Numbers
pub mod Pieces
pub mod Sources
pub mod Tables
