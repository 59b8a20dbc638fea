pub mod CutLemmas
pub mod ParagraphLemmas
pub mod LimitLemmas
pub mod WidthLemmas
pub mod CountLemmas
pub mod OkLemmas
pub mod RecutLemmas
