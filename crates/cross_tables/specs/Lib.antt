pub mod Cells
pub mod Field
pub mod Lines
pub mod Places
pub mod Totals
pub mod internal
