pub mod Acknowledged
pub mod Serving
pub mod Visits
pub mod internal
