pub mod ByteOrderMark
pub mod CommandLine
