pub mod Sets
pub mod Joined
pub mod Cells
pub mod Least
pub mod Trees
pub mod Stands
