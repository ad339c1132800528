pub mod Closings
pub mod Holders
pub mod Later
pub mod Rulings
