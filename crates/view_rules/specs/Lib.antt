pub mod Builds
pub mod Forms
pub mod Simple
pub mod Views
pub mod Modifiers
pub mod Items
pub mod Scenes
pub mod Laws
