pub mod Readings
pub mod Legality
pub mod Operands
