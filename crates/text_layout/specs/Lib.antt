pub mod Paragraphs
pub mod Clusters
pub mod Cuts
pub mod Lines
pub mod CutLines
