pub mod Terms
mod PutRuns
mod RevisionRuns
mod CompactionRuns
mod QuotaRuns
mod TransactionRuns
mod LeaseRuns
mod WatchRuns
mod RangeRuns
pub mod OrderLaws
pub mod NamedLaws
pub mod PoolLaws
pub mod RowLaws
pub mod HistoryLaws
pub mod PutLaws
pub mod GrowthLaws
pub mod OldRevisionLaws
pub mod ReadLaws
pub mod OnceLaws
pub mod QuietSteps
