-- What is proved of what a reader is shown, for the proofs of crates above.
pub use Rattle.club_answers.proofs.CrossTableLemmas.{table_one}
