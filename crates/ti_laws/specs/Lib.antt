pub mod Concerns
pub mod Agreement
pub mod Runs
pub mod Lists
pub mod StopShares
pub mod OwnCalls
