pub mod Matching
pub mod Outcome
