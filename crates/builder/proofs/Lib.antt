pub mod EndLaws
pub mod BuiltLaws
