pub mod Others
pub mod Pairs
pub mod Paths
pub mod Taking
pub mod Unread
