-- What is proved of the moves of draughts, for the proofs of crates above.
pub use Rattle.draughts_moves.proofs.AnswerLemmas.{check-answer, move-answer}
pub use Rattle.draughts_moves.proofs.CheckLemmas.{check_of-is, is_positive}
pub use Rattle.draughts_moves.proofs.CountLemmas.{len-counted}
pub use Rattle.draughts_moves.proofs.JumpLemmas.{jumps-complete, jumps-sound}
pub use Rattle.draughts_moves.proofs.ListLemmas.{moves-complete, moves-sound}
pub use Rattle.draughts_moves.proofs.MostLemmas.{Capture-len, IsMost-most, Jump-from_on, own_at-is, own_at-own}
pub use Rattle.draughts_moves.proofs.MoveLemmas.{play-turn}
pub use Rattle.draughts_moves.proofs.Prey.{In-range, prey_left-falls}
pub use Rattle.draughts_moves.proofs.RouteLemmas.{greatest-bounds, greatest-fits, routes_of-complete}
pub use Rattle.draughts_moves.proofs.RoutingLemmas.{landings_of-complete, landings_of-sound, route_cmp-total}
