pub mod OrderLemmas
pub mod SeatLemmas
pub mod WordLemmas
