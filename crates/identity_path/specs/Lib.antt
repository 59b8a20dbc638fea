pub mod CellLaws
pub mod Cells
pub mod Code
pub mod Hashed
pub mod Order
pub mod Text
pub mod Totals
