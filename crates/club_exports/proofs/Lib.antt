pub mod CsaLemmas
pub mod ExportLemmas
pub mod PdnLemmas
pub mod Timed
