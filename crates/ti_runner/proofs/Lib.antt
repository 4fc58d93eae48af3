pub mod Pairs
pub mod NewDesks
pub mod Owners
