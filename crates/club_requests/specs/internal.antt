pub mod CommandName
pub mod OutsideEnd
