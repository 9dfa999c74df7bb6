pub mod Closing
pub mod Faults
