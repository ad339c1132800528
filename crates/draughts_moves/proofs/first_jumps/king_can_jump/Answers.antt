use Rattle.std.proofs.Common.{◌∙◌, sym}
use Rattle.draughts_moves.proofs.LineLemmas.{king_by_first, king-takes}
use Rattle.draughts_moves.proofs.first_jumps.king_can_jump.Goals as goal

pub returns-in-Some : goal.returns-in-Some
returns-in-Some c = λ b p t met.
    c.takes.ensures b p t met
    ∙ sym
    (king-takes b c.args.toward c.args.met.now.pieces met.1 p t c.args.at c.in-Some.over
    (sym c.first_on.ensures ∙ c.in-Some.is))

pub returns-in-None : goal.returns-in-None
returns-in-None c = λ b p t met.
    rw (king_by_first b c.args.toward c.args.met.now.pieces met.1 p t c.args.at, sym c.first_on.ensures ∙ c.in-None.is)
