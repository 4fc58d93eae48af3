pub mod Answers
pub mod Hosts
pub mod Targets
pub mod Refusals
pub mod Heads
pub mod Talks
pub mod Memory
pub mod Runs
