use Rattle.club_rows.specs.internal.Replay.{terms_given}
use Rattle.club_rows.specs.internal.Rulings.{rulings_given}
use Rattle.club_answers.proofs.AnalysisLemmas.{replayed_texts}
use Rattle.club_answers.proofs.played_lines.replayed.Goals as goal

pub returns-in-Some-2-clause-texts : goal.returns-in-Some-2-clause-texts
returns-in-Some-2-clause-texts g c =
    replayed_texts g.R.Rules.rules (terms_given c.args.stored.now.terms) c.args.stored.now.id (rulings_given c.args.rulings.now)
    c.in-Some.start
    c.args.rows.now c.in-Some-2.game (rw c.in-Some-2.is at c.in_ok-game.ensures.some)
