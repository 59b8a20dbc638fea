pub mod Playing
pub mod Serving
pub mod Telling
pub mod Tabling
mod Judging
pub mod Checks
mod CheckTables
