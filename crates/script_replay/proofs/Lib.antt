pub mod LineLemmas
pub mod NumberLemmas
pub mod FirstLine
pub mod ReadLemmas
pub mod TurnLemmas
pub mod FrontLemmas
pub mod AnswerLemmas
pub mod GoingLemmas
