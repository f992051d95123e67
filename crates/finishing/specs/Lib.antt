pub mod Placing
pub mod Finishing
