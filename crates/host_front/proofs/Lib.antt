pub mod Told
pub mod Answered
pub mod Alone
pub mod Lived
