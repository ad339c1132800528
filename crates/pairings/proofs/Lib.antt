pub mod Ahead
pub mod Computed
pub mod OfSix
pub mod Tables
