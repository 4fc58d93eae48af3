pub mod Lists
pub mod Adding
pub mod Defining
