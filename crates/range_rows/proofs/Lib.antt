-- Proofs of this crate, which the store cites.
pub mod SortingRows
pub mod AnsweringLaws
pub mod RangingAnswers
pub mod RangingCells
pub mod TakingRows
pub mod MixingRows
