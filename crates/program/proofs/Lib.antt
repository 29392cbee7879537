mod Within
mod Outcomes
pub mod Worst
