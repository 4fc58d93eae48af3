pub mod Workers
pub mod Folds
pub mod Roots
pub mod Asked
pub mod Flames
pub mod Lines
