pub mod Asking
pub mod Refusals
pub mod Registering
pub mod Tokens
