-- Proofs of this crate, and lemmas for who answers.
pub mod AnswerLemmas
