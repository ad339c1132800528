use Rattle.std.proofs.Common.{sym, ◌∙◌}
use Rattle.shogi_moves.specs.internal.Layouts.{position_of}
use Rattle.shogi_moves.specs.internal.Computed.{is_legal}
use Rattle.shogi_moves.proofs.SeekLemmas.{found-passing, found-failing}
use Rattle.shogi_moves.proofs.checking.AnyLegalMoveVisitor.take.Goals as goal

pub returns-then-is_legal : goal.returns-then-is_legal
returns-then-is_legal c =
    let test = is_legal (position_of c.args.layout.now) in
    λ i. record { found = found-passing test _ c.args.self.now.found (sym c.is_legal.ensures ∙ c.if-is_legal.true) i }

pub returns-else-is_legal : goal.returns-else-is_legal
returns-else-is_legal c =
    let test = is_legal (position_of c.args.layout.now) in
    λ i. record { found = found-failing test _ c.args.self.now.found (sym c.is_legal.ensures ∙ c.if-is_legal.false) i }
