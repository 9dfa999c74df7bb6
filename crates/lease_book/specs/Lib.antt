pub mod Attached
pub mod Book
pub mod Granting
pub mod Ending
