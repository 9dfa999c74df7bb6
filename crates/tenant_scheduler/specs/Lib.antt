pub mod Makes
pub mod Outcomes
pub mod OwnSteps
pub mod ServerTime
pub mod Watches
