pub mod Counts
pub mod Shelf
pub mod Sink
pub mod Whole
pub mod MemSink
pub mod Files
pub mod MemShelf
pub mod Real
