pub mod Clubs
pub mod Asking
pub mod FaultText
pub mod Histories
pub mod Runs
pub mod SchemaRuns
pub mod Upgrades
pub mod internal
