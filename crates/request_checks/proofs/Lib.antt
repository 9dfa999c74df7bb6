pub mod Filtered
pub mod Rising
