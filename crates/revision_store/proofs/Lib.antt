mod Writing
mod InPlaceRows
mod KeysRead
mod Left
pub mod RowsLeft
pub mod Attached
mod Committed
pub mod Recorded
pub mod Placed
pub mod Counted
pub mod Logged
pub mod DeletesLeft
pub mod FewRows
pub mod FoundRanges
pub mod ReadingCells
pub mod ReadingRows
pub mod NewestRows
pub mod Merged
pub mod ComparingReads
pub mod Costs
pub mod Walked
pub mod RangingReads
pub mod GivenCells
pub mod MixingCells
pub mod PendingStores
pub mod PendingReads
pub mod PendingPuts
pub mod PendingDeletes
pub mod PendingRows
pub mod MixingPuts
pub mod Overlaid
pub mod PendingOverlaid
pub mod LatestCells
pub mod LatestRows
pub mod LatestGiven
pub mod PendingRanges
pub mod Grown
