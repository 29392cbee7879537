pub mod Machine
pub mod Run
pub mod Calls
pub mod Laws
