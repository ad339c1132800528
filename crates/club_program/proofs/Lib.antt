pub mod RecordLemmas
pub mod StatusLemmas
pub mod WordLemmas
