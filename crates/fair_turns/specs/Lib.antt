pub mod Answers
pub mod Watching
