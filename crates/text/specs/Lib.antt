pub mod Bytes
pub mod Kinds
pub mod Cuts
pub mod Lines
pub mod Tokens
pub mod Numbers
pub mod Refusals
pub mod Laws
