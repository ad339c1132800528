pub mod Columns
pub mod Keys
pub mod Shapes
pub mod internal
