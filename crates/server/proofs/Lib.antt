pub mod ActedLemmas
pub mod LogLemmas
pub mod Proved
pub mod ServedLemmas
pub mod ServingLemmas
pub mod TakenLemmas
pub mod ShutLemmas
pub mod RejectedLemmas
