-- What is proved of the order of a cross table and of a field, for the proofs of crates above.
pub use Rattle.cross_tables.proofs.Alike.{only-one}
pub use Rattle.cross_tables.proofs.FieldLemmas.{one-field}
