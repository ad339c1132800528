pub mod Alike
pub mod internal
