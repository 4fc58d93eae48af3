pub mod Lowering
pub mod Cutting
pub mod Pieces
pub mod Keys
