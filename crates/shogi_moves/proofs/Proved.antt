-- What is proved of the moves of shogi, for the proofs of crates above.
pub use Rattle.shogi_moves.proofs.AnswerLemmas.{attack-answer, check-answer, declare-answer, move-answer}
pub use Rattle.shogi_moves.proofs.AttackLemmas.{king_attacked-is}
pub use Rattle.shogi_moves.proofs.CheckLemmas.{check_of-legal, check_of-refused}
pub use Rattle.shogi_moves.proofs.DeclareLemmas.{can_declare-is}
pub use Rattle.shogi_moves.proofs.MateLemmas.{has_move-is}
pub use Rattle.shogi_moves.proofs.PlayLemmas.{play-sound}
pub use Rattle.shogi_moves.proofs.ReachLemmas.{Reach-on}
