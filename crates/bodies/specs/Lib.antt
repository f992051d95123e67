pub mod Body
pub mod Span
pub mod Cursor
pub mod Multiples
pub mod Bounds
