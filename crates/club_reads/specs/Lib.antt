pub mod Keys
pub mod internal
