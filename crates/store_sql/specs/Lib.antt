pub mod Read
pub mod internal
