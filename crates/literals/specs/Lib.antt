pub mod Literal
pub mod Rows
pub mod Changes
