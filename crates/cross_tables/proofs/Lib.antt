pub mod Alike
pub mod Adding
pub mod FieldExample
pub mod FieldLemmas
pub mod Proved
pub mod Ranked
