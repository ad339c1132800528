use Rattle.std.proofs.Common.{ap, ◌∙◌}
use Rattle.club_core.specs.Step.{game_step}
use Rattle.club_core.specs.internal.View.{concluded, settled_of}
use Rattle.club_changes.proofs.Proved.{step_legal, seen_stood, seen_concluded}
use Rattle.store_tables.proofs.Proved.{clean_before, reads_on, rows_after}
use Rattle.store.proofs.game.counted.Goals as goal

pub returns-clause-concluded : goal.returns-clause-concluded
returns-clause-concluded g c clean content terms old moment who command k tells legal plies decided =
    let laws = g.R.Rules.rules in
    let o = game_step laws terms old moment who command in
    let looked = clean_before c.score_rows_of_decision.ensures.reads clean in
    let times = c.occurrences_of-stood.result.times in
    let first = c.occurrences_of-stood.result.first_ply in
    let seen = c.in_ok-seen.ensures.seen looked content terms old moment who command k tells legal plies decided.0 in
    let stood = seen_stood laws terms old moment c.args.game times first c.in_ok-seen.seen c.occurrences_of-stood.ensures o
    (step_legal laws terms old moment legal.line.legal who command) c.args.decision seen in
    let concluded_as = c.conclude-decision.ensures ∙ ap (concluded laws c.args.decision) c.settle-settled.ensures in (
      rw concluded_as (decided.1 times first stood),
      rw concluded_as (seen_concluded laws terms old moment c.args.game o c.in_ok-seen.seen c.args.decision
          (settled_of laws c.args.decision times first) seen),
      λ players. c.in_ok-scores.ensures.scores clean content
          (rows_after c.in_ok-seen.ensures.reads looked content k) players,
    )

pub returns-clause-reads : goal.returns-clause-reads
returns-clause-reads g c = reads_on c.in_ok-seen.ensures.reads c.in_ok-scores.ensures.reads
