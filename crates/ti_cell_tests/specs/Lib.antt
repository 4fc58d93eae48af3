pub mod Cells
pub mod ClearPolls
