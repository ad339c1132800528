pub mod ShapeLemmas
pub mod Proved
