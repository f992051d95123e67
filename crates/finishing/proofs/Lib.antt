pub mod CopyLaws
pub mod RunLaws
pub mod NodeLaws
pub mod PartwayLaws
pub mod FinishLaws
