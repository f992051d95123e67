pub mod Literals
pub mod Chain
pub mod Walk
pub mod Sums
pub mod Pairs
pub mod Normal
