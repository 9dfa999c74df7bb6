-- Proofs of this crate.
pub mod MakeLemmas
pub mod OrderLemmas
pub mod WatchLemmas
