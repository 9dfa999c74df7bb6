-- Proofs of this crate.
pub mod Counting
pub mod DecidingOps
pub mod DecidingSpace
pub mod DecidingTxns
pub mod EarlyRefusals
pub mod Holding
mod FindingRows
mod KeysFew
mod KeysFollow
mod KeepingLeases
mod LeaseEnds
mod LeasesDue
mod RecordsKept
mod RevisionFollow
mod DecidingLeases
mod DecidingWatches
mod Reserved
