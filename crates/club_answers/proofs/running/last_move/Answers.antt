use Rattle.std.proofs.Common.{Some, None}
use Rattle.club_rows.specs.internal.Replay.{terms_given}
use Rattle.club_answers.proofs.RunningLemmas.{last_is}
use Rattle.club_answers.proofs.running.last_move.Goals as goal

pub returns-in-Some-clause-last : goal.returns-in-Some-clause-last
returns-in-Some-clause-last g c clean content game count k finds =
    let terms = terms_given c.args.stored.now.terms in
    last_is g.R.Rules.rules terms c.args.stored.now.id game c.args.plies (Some c.in-Some.row) count
    (rw c.in-Some.is at (c.in_ok-row.ensures.found clean content terms game k finds))

pub returns-in-None-clause-last : goal.returns-in-None-clause-last
returns-in-None-clause-last g c clean content game count k finds =
    let terms = terms_given c.args.stored.now.terms in
    last_is g.R.Rules.rules terms c.args.stored.now.id game c.args.plies None count
    (rw c.in-None.is at (c.in_ok-row.ensures.found clean content terms game k finds))
