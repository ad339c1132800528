pub mod Tried
pub mod internal
