mod Apart
pub mod Found
mod Going
mod Whole
