-- Laws of the functions.
pub mod WalkLaws
pub mod LastLaws
pub mod KnownLaws
pub mod RestLaws
pub mod EvaluateLaws
pub mod DecodeLaws
pub mod OutputLaws
pub mod GateListLaws
