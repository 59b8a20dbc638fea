pub mod ItemMentions
pub mod Each
pub mod Customs
pub mod Views
pub mod Modified
pub mod Builders
