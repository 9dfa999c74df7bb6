pub mod Begins
pub mod Outcomes
pub mod Requests
