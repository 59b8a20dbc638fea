pub mod TypeLaws
pub mod PatternLaws
