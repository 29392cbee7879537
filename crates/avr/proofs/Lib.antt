pub mod Rows
pub mod Locals
pub mod Sounds
pub mod Made
