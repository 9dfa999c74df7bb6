pub mod Ahead
pub mod Agreeing
pub mod Catching
pub mod Gathering
pub mod Hints
pub mod Slots
pub mod Telling
pub mod Codes
