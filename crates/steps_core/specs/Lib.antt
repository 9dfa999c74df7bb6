pub mod Hosts
pub mod Sound
pub mod Isolation
pub mod Adding
pub mod Reserving
pub mod Resizing
pub mod Removing
