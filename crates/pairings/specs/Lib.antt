pub mod Table
pub mod internal
