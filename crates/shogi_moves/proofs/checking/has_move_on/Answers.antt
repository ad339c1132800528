use Rattle.std.proofs.Common.{ap, ◌∙◌}
use Rattle.shogi_moves.specs.declared.checking.AnyLegal.{AnyLegal}
use Rattle.shogi_moves.specs.internal.Layouts.{position_of}
use Rattle.shogi_moves.specs.internal.Computed.{is_legal, has_move}
use Rattle.shogi_moves.proofs.SeekLemmas.{any-moves}
use Rattle.shogi_moves.proofs.checking.has_move_on.Goals as goal

pub returns : goal.returns
unfolding has_move
returns c = ap (λ (x : AnyLegal). x.found) c.in-Ok.ensures ∙ any-moves (is_legal (position_of c.args.layout.now))
