pub mod Planned
pub mod Folding
pub mod Finding
