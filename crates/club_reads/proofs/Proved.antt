-- What is proved of what the tables of a club tell, for the proofs of crates above.
pub use Rattle.club_reads.proofs.BeginLemmas.{games_begin}
pub use Rattle.club_reads.proofs.FoundRulings.{tells_rulings, tells_verdict}
pub use Rattle.club_reads.proofs.KeyLemmas.{holder_named}
pub use Rattle.club_reads.proofs.LaterLemmas.{no_first}
