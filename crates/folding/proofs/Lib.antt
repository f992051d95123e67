pub mod SettledLaws
pub mod AnswerLaws
pub mod JoinLaws
pub mod UnderLaws
