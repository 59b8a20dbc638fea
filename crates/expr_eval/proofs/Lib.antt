pub mod Absents
pub mod Ends
pub mod Levels
pub mod Vacancy
