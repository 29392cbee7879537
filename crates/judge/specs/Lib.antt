pub mod Faults
pub mod Judgement
pub mod Refused
pub mod Verdicts
pub mod Views
pub mod Worked
