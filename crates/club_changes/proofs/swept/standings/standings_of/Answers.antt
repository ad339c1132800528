use Rattle.std.proofs.Common.{ap, arith}
use Rattle.std.specs.Map.{lookup}
use Rattle.std.proofs.lemmas.Option.{slice_get-get_or}
use Rattle.club_rows.specs.Scores.{same_pair}
use Rattle.club_changes.proofs.StandingLemmas.{stand_start, stand_more, stand_all}
use Rattle.club_changes.proofs.swept.standings.standings_of.Goals as goal

pub loop-row-init : goal.loop-row-init
loop-row-init c = stand_start _ (λ pair. ap (lookup (same_pair pair)) c.new-standings.ensures.empty)

pub loop-row-preserved : goal.loop-row-preserved
loop-row-preserved c =
    let rows = c.args.rows.now in
    let k = c.loop-row.row-index in
    stand_more rows k _ _ _ (slice_get-get_or rows k _ c.loop-row-test.true) c.loop-row.invariant c.in_ok-keep.ensures

pub returns : goal.returns
returns c = λ all same.
    let past = c.loop-row-test.false in
    let most = c.loop-row.auto.row-index-end in
    stand_all c.args.rows.now c.loop-row.row-index _ all (omega (arith, past, most)) c.loop-row.invariant same
