use Rattle.std.proofs.Common.{◌&&◌, ap, sym, ◌∙◌}
use Rattle.std.specs.Prelude.{not}
use Rattle.shogi_moves.specs.internal.Layouts.{position_of}
use Rattle.shogi_moves.specs.internal.Computed.{mates_by_pawn}
use Rattle.shogi_moves.proofs.SeekLemmas.{is_legal-pseudo}
use Rattle.shogi_moves.proofs.checking.is_legal.Goals as goal

pub returns-then-not-leaves_king : goal.returns-then-not-leaves_king
returns-then-not-leaves_king c =
    let p = position_of c.args.layout.now in
    let m = c.args.played.now in
    ap not c.mates_by_pawn.ensures
    ∙ sym
    (is_legal-pseudo p m c.requires ∙ ap (λ b. not b && not (mates_by_pawn p m))
    (sym c.leaves_king.ensures ∙ c.if-not-leaves_king.true))

pub returns-else-not-leaves_king : goal.returns-else-not-leaves_king
returns-else-not-leaves_king c =
    let p = position_of c.args.layout.now in
    let m = c.args.played.now in
    ap not c.if-not-leaves_king.false
    ∙ sym
    (is_legal-pseudo p m c.requires ∙ ap (λ b. not b && not (mates_by_pawn p m))
    (sym c.leaves_king.ensures ∙ c.if-not-leaves_king.false))
