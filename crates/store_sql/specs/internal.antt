pub mod Copies
pub mod Filled
pub mod Read
pub mod Widened
