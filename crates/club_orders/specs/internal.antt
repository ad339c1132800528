pub mod Recorded
pub mod Refused
pub mod Report
