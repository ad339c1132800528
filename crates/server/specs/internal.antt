pub mod KeyLimit
pub mod LogLine
pub mod Outgoing
