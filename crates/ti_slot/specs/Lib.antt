pub mod Condition
pub mod Waiting
pub mod Thread
pub mod Slot
pub mod Refusal
pub mod Tickets
pub mod HandOvers
pub mod Inside
