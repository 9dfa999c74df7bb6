pub mod Keyed
pub mod Tenants
pub mod Plans
pub mod Deciding
pub mod Reserving
pub mod Finding
