pub mod Thread
pub mod Threads
pub mod Inside
pub mod Core
pub mod Refines
pub mod Runs
pub mod OfRuns
pub mod Lists
