pub mod There
pub mod Put
pub mod Numbers
pub mod Blocks
pub mod Surveying
pub mod Disjoining
pub mod Making
