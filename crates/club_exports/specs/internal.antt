pub mod CsaRecords
pub mod Exported
pub mod PdnRecords
pub mod RecordLaws
pub mod Title
pub mod Written
