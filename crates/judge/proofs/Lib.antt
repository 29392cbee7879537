pub mod Checks
pub mod Joins
pub mod Kept
pub mod Placed
pub mod Refused
pub mod Ranged
