pub mod Links
pub mod Index
pub mod Moving
pub mod Sought
pub mod Compaction
pub mod Order
pub mod Visiting
