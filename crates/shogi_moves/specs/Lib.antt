pub mod Check
pub mod Computed
pub mod Declaring
pub mod Listing
pub mod Reach
pub mod Rules
pub mod Search
pub mod internal
