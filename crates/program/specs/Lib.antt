pub mod Makings
pub mod Hidden
pub mod Joins
pub mod Options
pub mod Standings
