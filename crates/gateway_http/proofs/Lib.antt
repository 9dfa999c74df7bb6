-- Proofs of this crate.
pub mod ReadingLemmas
pub mod RequestLemmas
