pub mod Steps
pub mod Stored
pub mod Whole
pub mod internal
