pub mod Faults
pub mod Named
