pub mod Pools
pub mod Sequences
pub mod Pooling
