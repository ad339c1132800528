pub mod Audit
pub mod FirstWrong
pub mod GameAudit
pub mod internal
