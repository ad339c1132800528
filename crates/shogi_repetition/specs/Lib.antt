pub mod Ends
pub mod Faults
pub mod Line
pub mod Tails
pub mod internal
