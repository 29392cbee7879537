pub mod Alone
pub mod Pools
pub mod Most
