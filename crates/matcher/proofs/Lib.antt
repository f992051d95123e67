pub mod Values
pub mod RuleKinds
pub mod WalkLaws
pub mod MatchedLaws
