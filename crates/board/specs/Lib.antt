pub mod Cores
pub mod Steps
pub mod Moves
pub mod States
pub mod Loans
pub mod Faults
