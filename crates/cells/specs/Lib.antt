pub mod Works
pub mod Cells
