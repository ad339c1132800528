pub mod Computed
pub mod Counting
pub mod Faults
pub mod Laws
pub mod Line
pub mod Tails
