use Rattle.std.proofs.Common.{◌∙◌, ap}
use Rattle.shogi_moves.specs.internal.Computed.{has_move}
use Rattle.shogi_moves.proofs.MateLemmas.{has_move-is}
use Rattle.shogi_moves.proofs.TruthLemmas.{holds-as}
use Rattle.shogi_moves.proofs.checking.has_move.Goals as goal

pub returns : goal.returns
returns c = holds-as _ _ (c.has_move_on.ensures ∙ ap has_move c.from_position.ensures.value) (has_move-is _)
