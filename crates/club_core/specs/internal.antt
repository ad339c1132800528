pub mod Answer
pub mod Rulings
pub mod View
