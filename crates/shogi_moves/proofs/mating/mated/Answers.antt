use Rattle.std.proofs.Common.{◌∙◌, ap}
use Rattle.shogi_moves.specs.internal.Computed.{is_mate}
use Rattle.shogi_moves.proofs.MateLemmas.{is_mate-is}
use Rattle.shogi_moves.proofs.TruthLemmas.{holds-as}
use Rattle.shogi_moves.proofs.mating.mated.Goals as goal

pub returns : goal.returns
returns c = holds-as _ _ (c.is_mate.ensures ∙ ap is_mate c.from_position.ensures.value) (is_mate-is _)
