pub mod AnalysisLemmas
pub mod BodyLemmas
pub mod PageLemmas
