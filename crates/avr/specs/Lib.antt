pub mod Core
pub mod Effects
pub mod Table
pub mod Chip
pub mod Exact
pub mod Lists
