pub mod PlaceLaws
pub mod OtherLaws
pub mod QuestionLaws
