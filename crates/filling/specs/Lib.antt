pub mod Seeds
pub mod Answers
pub mod Between
pub mod Worked
pub mod Worklists
