use Rattle.std.proofs.Common.{ap}
use Rattle.club_requests.specs.Rulings.{verdict_in}
use Rattle.club_core.proofs.rulings.accept_ruling.Goals as goal
use Rattle.club_core.proofs.rulings.accept_ruling.Goals.{in-Grant+in_ok-decision-in-Grant}
use Rattle.club_core.proofs.rulings.accept_ruling.Goals.{in-Award+in_ok-decision-in-Award}
use Rattle.club_core.proofs.rulings.accept_ruling.Goals.{in-Void+in_ok-decision-in-Void}

pub returns : goal.returns
returns g c = λ game moment shows.
    elim c.match-ruling.branch [
      | in-Grant+in_ok-decision-in-Grant w ↦
          rw (w.in-Grant.is, w.decision-is) (w.in_ok-decision-in-Grant.ensures game moment shows)
      | in-Award+in_ok-decision-in-Award w ↦
          rw w.decision-is
          (w.in_ok-decision-in-Award.ensures game c.args.ruling moment shows (ap verdict_in w.in-Award.is))
      | in-Void+in_ok-decision-in-Void w ↦
          rw w.decision-is
          (w.in_ok-decision-in-Void.ensures game c.args.ruling moment shows (ap verdict_in w.in-Void.is))
    ]
