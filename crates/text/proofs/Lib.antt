pub mod PlacedLaws
pub mod DecimalLaws
pub mod LineLaws
pub mod NodeLaws
