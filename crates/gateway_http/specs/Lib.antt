pub mod Bodies
pub mod Exchanges
pub mod Readings
pub mod Requests
pub mod Responses
