pub mod Civil
pub mod Clock
pub mod internal
