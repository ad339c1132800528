pub mod CopyLemmas
pub mod EmptyLemmas
pub mod FoundLemmas
pub mod Proved
