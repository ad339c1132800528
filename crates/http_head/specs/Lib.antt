pub mod Framing
pub mod Head
pub mod Refusals
pub mod Request
pub mod internal
