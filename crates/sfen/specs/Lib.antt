pub mod Letters
pub mod SfenGrammar
pub mod SfenText
pub mod UsiReading
pub mod UsiText
pub mod internal
