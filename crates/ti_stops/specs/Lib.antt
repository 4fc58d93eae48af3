pub mod Kinds
pub mod Errors
pub mod Lists
pub mod Stops
pub mod Arrivals
pub mod Own
pub mod Shares
