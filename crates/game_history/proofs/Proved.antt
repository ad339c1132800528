-- What is proved of lines, for the proofs of crates above.
pub use Rattle.game_history.proofs.LineLemmas.{after-longer, count_by-one, few-times, first-longer, first-of-none}
pub use Rattle.game_history.proofs.LineLemmas.{get-positions}
pub use Rattle.game_history.proofs.LineLemmas.{last_position-append, length-positions, positions-append}
pub use Rattle.game_history.proofs.LineLemmas.{times-more}
pub use Rattle.game_history.proofs.FaultLemmas.{after-end, fault-of-beginning, IsFaultOfLast, fault-of-last, grown}
pub use Rattle.game_history.proofs.FaultLemmas.{last-legal, not-legal, played-more, played-none}
