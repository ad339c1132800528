use Rattle.std.proofs.Common.{refl}
use Rattle.club_audit.proofs.StandingLemmas.{score_added, score_fits}
use Rattle.club_audit.proofs.standings.add.Goals as goal

pub returns-in_ok-insert-in-Some : goal.returns-in_ok-insert-in-Some
returns-in_ok-insert-in-Some c =
    λ ms are low. score_added c.args.standings.now c.args.pair c.args.score ms are c.insert.new.self c.in-Some.sums
    (rw (c.sums_in-sums.ensures, c.gains.ensures) at c.in-Some.ensures.some)
    c.in_ok-insert-in-Some.ensures.updates.0

pub returns-in-None : goal.returns-in-None
returns-in-None c =
    λ ms are low. absurd ((rw (c.sums_in-sums.ensures, c.gains.ensures) at (c.in-None.ensures.none refl))
    (score_fits c.args.standings.now c.args.pair c.args.score ms are low))
