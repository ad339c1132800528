pub mod Pieces
pub mod internal
