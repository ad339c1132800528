-- What is proved of sessions and histories, for the proofs of crates above.
pub use Rattle.store_files.proofs.FoundLemmas.{was_clean}
