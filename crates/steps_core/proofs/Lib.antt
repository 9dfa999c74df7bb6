pub mod Lists
pub mod Shown
pub mod Served
pub mod Added
pub mod Stepped
pub mod Runs
pub mod Resized
pub mod Removed
