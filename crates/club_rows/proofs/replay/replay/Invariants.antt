use Rattle.club_rows.specs.internal.Replay.{HasLeft, IsReplayed, WasReplayed, terms_given}
use Rattle.club_rows.specs.internal.Rulings.{rulings_given}
use Rattle.club_rows.proofs.replay.replay.Given as goal

abbrev pub invariant-loop-row : goal.invariant-loop-row
invariant-loop-row g l =
    IsReplayed g.R.Rules.rules l.row-index l.game
    × HasLeft l.row-index l.game
    × WasReplayed g.R.Rules.rules (terms_given l.opening.terms) l.opening.id (rulings_given l.rulings) l.opening.start
    l.rows l.row-index l.game
