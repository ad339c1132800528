pub mod ReasonIsRight
pub mod FaultText
pub mod Places
pub mod Versions
pub mod Refused
pub mod RightMoves
pub mod RightTables
pub mod internal
