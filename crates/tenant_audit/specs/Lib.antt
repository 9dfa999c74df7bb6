pub mod Audits
pub mod AuditInside
pub mod Receipts
pub mod Seats
pub mod Closing
pub mod Closed
