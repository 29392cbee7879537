pub mod Fronts
pub mod Cutting
pub mod Lined
pub mod Worded
pub mod Numbered
pub mod Refused
