pub mod Tests
pub mod Grammar
pub mod Parse
pub mod Ladder
pub mod Nests
