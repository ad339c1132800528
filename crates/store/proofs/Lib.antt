pub mod HistoryLemmas
pub mod LegalLemmas
pub mod NameLemmas
pub mod OpeningLemmas
pub mod Proved
pub mod RunLemmas
pub mod UnderLemmas
pub mod UpgradeLemmas
