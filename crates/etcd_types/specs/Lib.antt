pub mod Refusals
pub mod Limits
pub mod Steps
pub mod Rows
