-- What is proved of games in PDN, for the proofs of crates above.
pub use Rattle.pdn_games.proofs.EndingLemmas.{end-fails}
pub use Rattle.pdn_games.proofs.LexLemmas.{have-forms}
pub use Rattle.pdn_games.proofs.SkipLemmas.{skipped-parts}
pub use Rattle.pdn_games.proofs.TagGrammarLemmas.{tag-split}
pub use Rattle.pdn_games.proofs.WriterLemmas.{move-begins, next-legal, tags-begin, taken-next}
