use Rattle.std.proofs.Common.{ap, sym, ◌∙◌}
use Rattle.std.specs.Prelude.{not}
use Rattle.shogi_moves.specs.internal.Layouts.{position_of}
use Rattle.shogi_moves.specs.internal.Computed.{escapes}
use Rattle.shogi_moves.proofs.SeekLemmas.{escapes-pseudo, found-passing, found-failing}
use Rattle.shogi_moves.proofs.mating.AnyEscapeMoveVisitor.take.Goals as goal

pub returns-then-not-leaves_king : goal.returns-then-not-leaves_king
returns-then-not-leaves_king c =
    let a = c.args in
    let p = position_of a.layout.now in
    let e = escapes-pseudo p a.played c.requires ∙ ap not (sym c.leaves_king.ensures ∙ c.if-not-leaves_king.true) in
    λ i. record { found = found-passing (escapes p) a.played a.self.now.found e i }

pub returns-else-not-leaves_king : goal.returns-else-not-leaves_king
returns-else-not-leaves_king c =
    let a = c.args in
    let p = position_of a.layout.now in
    let e = escapes-pseudo p a.played c.requires ∙ ap not (sym c.leaves_king.ensures ∙ c.if-not-leaves_king.false) in
    λ i. record { found = found-failing (escapes p) a.played a.self.now.found e i }
