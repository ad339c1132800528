use Rattle.std.proofs.Common.{sym, ◌∙◌}
use Rattle.draughts_moves.proofs.playing.play.Goals as goal

pub returns-in-Some : goal.returns-in-Some
returns-in-Some c =
    rw (c.pass_turn.ensures, c.put.ensures, c.clear_all.ensures, c.clear.ensures, c.crowned.ensures)
    (rw (sym c.piece_at.ensures ∙ c.in-Some.is))
