pub mod Quoting
pub mod Gathering
pub mod Bytes
pub mod Turns
pub mod Counting
pub mod Lawful
