pub mod Answering
pub mod Taking
pub mod Reading
