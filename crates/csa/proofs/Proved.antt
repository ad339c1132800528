-- What is proved of games in CSA, for the proofs of crates above.
pub use Rattle.csa.proofs.EndingLemmas.{end-fails, of-ends}
pub use Rattle.csa.proofs.EntryLemmas.{next-legal}
pub use Rattle.csa.proofs.ReplayLemmas.{mean-more}
pub use Rattle.csa.proofs.WriterLemmas.{lines-begin, move-begins, taken-next}
