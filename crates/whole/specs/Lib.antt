pub mod Integers
pub mod Divides
pub mod Multiples
pub mod Bounded
