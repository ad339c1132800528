pub mod Title
pub mod Written
pub mod PdnRecords
pub mod CsaRecords
pub mod internal
