pub mod Fide
pub mod Laws
