pub mod Fields
pub mod Codes
pub mod Decode
pub mod Encode
pub mod Cycles
pub mod Routes
pub mod Operands
pub mod Legal
