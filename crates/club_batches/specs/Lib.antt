pub mod Seats
pub mod internal
