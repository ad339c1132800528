pub mod CsaRecord
pub mod Draughts
pub mod DraughtsRecords
pub mod PdnRecord
pub mod Shogi
pub mod ShogiRecords
pub mod internal
