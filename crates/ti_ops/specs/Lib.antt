pub mod Ops
pub mod Statuses
pub mod OutboxEntry
