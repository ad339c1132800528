pub mod Laws
pub mod MoveRefusal
pub mod RecordRefusal
pub mod Records
