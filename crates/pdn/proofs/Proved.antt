-- What is proved of the texts of draughts, for the proofs of crates above.
pub use Rattle.pdn.proofs.BackLemmas.{quiet-on, reads-back}
pub use Rattle.pdn.proofs.ChoiceLemmas.{same_move-itself, same_move-same}
pub use Rattle.pdn.proofs.FenBoardLemmas.{fen-back}
pub use Rattle.pdn.proofs.FenOneLemmas.{fen-one, fen-well}
pub use Rattle.pdn.proofs.FenReadLemmas.{text-reads}
pub use Rattle.pdn.proofs.FenStopLemmas.{form-parts}
pub use Rattle.pdn.proofs.GrammarLemmas.{one_digit, read_form-text, text-read_form, two_digits}
pub use Rattle.pdn.proofs.LandingLemmas.{Route-on}
pub use Rattle.pdn.proofs.OffsetLemmas.{le_or_more}
pub use Rattle.pdn.proofs.ReadingValueLemmas.{reading-answer, reading-err, reading-ok}
pub use Rattle.pdn.proofs.ValueLemmas.{text-answer, text-is, text-one}
