pub mod DurationLemmas
pub mod TenantLemmas
