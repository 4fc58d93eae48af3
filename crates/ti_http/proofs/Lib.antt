pub mod Texts
pub mod Rests
pub mod Parts
pub mod Steps
pub mod Protocol
pub mod Sending
