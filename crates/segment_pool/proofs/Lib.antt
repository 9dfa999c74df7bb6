pub mod Numbers
pub mod SupplyLaws
