use Rattle.std.proofs.lemmas.Result.{IfOk-weaker}
use Rattle.club_core.specs.internal.Answer.{events_of}
use Rattle.club_changes.proofs.ChallengedTables.{begun_started}
use Rattle.club_changes.proofs.FoundLemmas.{both_ok}
use Rattle.club_changes.proofs.challenges.begun_rows.Goals as goal

pub returns-in-Accepted-clause-puts : goal.returns-in-Accepted-clause-puts
returns-in-Accepted-clause-puts c =
    IfOk-weaker c.seated_rows.result _ _ (λ changes both legal.
    begun_started (events_of c.args.events.now) c.args.moment c.args.challenge c.in-Accepted.game _ changes
    c.in-Accepted.is c.pairing-pairing.ensures (both.0 legal) both.1)
    (both_ok c.seated_rows.result _ _ c.seated_rows.ensures.puts c.seated_rows.ensures.running)

pub returns-in-Accepted-clause-unfit : goal.returns-in-Accepted-clause-unfit
returns-in-Accepted-clause-unfit c = λ unfit.
    rw c.pairing-pairing.ensures at (c.seated_rows.ensures.unfit unfit)
