-- Proofs of this crate.
pub mod RequestLemmas
