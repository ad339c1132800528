use Rattle.club_changes.proofs.imported.stored_game.played_of.Goals as goal

pub returns-in-Some-2 : goal.returns-in-Some-2
returns-in-Some-2 g c terms id game is beneath same = (
  (rw c.in-Some-2.is at c.in_ok-moves.ensures) terms id game is.legal.line.legal same,
  c.result_beneath.ensures terms id game is beneath c.in-Some.ensures.0,
)
