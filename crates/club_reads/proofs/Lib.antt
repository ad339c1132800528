pub mod BeginLemmas
pub mod ClosingLemmas
pub mod FoundRulings
pub mod HolderLemmas
pub mod KeyLemmas
pub mod LaterLemmas
pub mod Proved
pub mod RulingLemmas
