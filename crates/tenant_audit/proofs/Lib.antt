-- Proofs of this crate; the registry cites some.
pub mod ClosedLemmas
pub mod ClosingLemmas
pub mod SeatLemmas
