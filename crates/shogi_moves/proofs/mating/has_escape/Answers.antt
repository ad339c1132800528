use Rattle.std.proofs.Common.{ap, ◌∙◌}
use Rattle.shogi_moves.specs.declared.mating.AnyEscape.{AnyEscape}
use Rattle.shogi_moves.specs.internal.Layouts.{position_of}
use Rattle.shogi_moves.specs.internal.Computed.{escapes}
use Rattle.shogi_moves.proofs.SeekLemmas.{any-moves}
use Rattle.shogi_moves.proofs.mating.has_escape.Goals as goal

pub returns : goal.returns
returns c = ap (λ (x : AnyEscape). x.found) c.in-Ok.ensures ∙ any-moves (escapes (position_of c.args.layout.now))
