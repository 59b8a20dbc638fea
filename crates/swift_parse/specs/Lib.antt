pub mod Words
pub mod Below
pub mod Grammar
pub mod Parse
pub mod File
