-- Proofs of this crate.
pub mod AddingLemmas
pub mod CloseLemmas
pub mod KeptLemmas
pub mod RegistryLemmas
pub mod ResizingLemmas
pub mod RevisionLemmas
pub mod RemovingLemmas
pub mod SeatLemmas
pub mod SeatedLemmas
pub mod UsageLemmas
