pub mod Joins
pub mod Folds
pub mod Ends
