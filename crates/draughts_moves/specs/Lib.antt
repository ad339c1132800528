pub mod Capture
pub mod Check
pub mod Legal
pub mod Listing
pub mod Routes
pub mod Search
pub mod internal
