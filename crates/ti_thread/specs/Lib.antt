pub mod AnyThread
pub mod Turns
pub mod Changes
pub mod Hosts
pub mod Laws
