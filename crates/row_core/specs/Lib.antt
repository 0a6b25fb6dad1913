pub mod RowList
pub mod Cells
