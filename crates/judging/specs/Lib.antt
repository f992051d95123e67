pub mod Judging
pub mod Masks
pub mod Shifts
pub mod Walks
