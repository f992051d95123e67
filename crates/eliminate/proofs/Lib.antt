pub mod InputLaws
pub mod LeftLaws
pub mod PrintedLaws
