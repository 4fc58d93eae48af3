pub mod Chunks
pub mod Lends
