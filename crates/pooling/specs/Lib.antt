pub mod Faults
pub mod Pooled
pub mod Largest
