pub mod Errors
pub mod Classes
pub mod Rules
