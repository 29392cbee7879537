pub mod Simples
pub mod Written
pub mod Making
pub mod Broken
pub mod Chained
pub mod Lawful
