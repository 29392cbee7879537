pub mod Verdict
pub mod Laws
