use Rattle.store_tables.proofs.Proved.{ended}
use Rattle.std.proofs.Common.{SFits, w64, to_z-of_z, ap, arith, subst, sym, ◌∙◌}
use Rattle.std.specs.Prelude.{filter}
use Rattle.std.proofs.lemmas.Int.{ints}
use Rattle.std.proofs.lemmas.Result.{IfOk-weaker}
use Rattle.club_rows.specs.Club.{tables}
use Rattle.club_answers.specs.CrossTable.{AreScoresIn, has_counted}
use Rattle.club_answers.proofs.CrossTableLemmas.{scores_are}
use Rattle.club_answers.proofs.cross_table.scores_in.Goals as goal

pub returns-clause-reads : goal.returns-clause-reads
returns-clause-reads g c = ended _ c.in_ok-rows.ensures.reads

pub returns-clause-scores : goal.returns-clause-scores
returns-clause-scores g c clean =
    let fits : SFits w64 c.from-number.result = rw c.from-number.ensures (omega (arith, ints, c.ranges.event.fits)) in
    IfOk-weaker c.counted.result _ _ (λ counted are s k.
    let same = are ∙ ap (filter has_counted) c.deref-2.ensures.value in
    let those = rw (to_z-of_z fits, c.from-number.ensures, ← c.deref.ensures.value, c.in_ok-scores.ensures.rows)
    at (c.in_ok-rows.ensures.rows clean (tables s) k).0 in
    subst (AreScoresIn s c.args.event) (sym same)
    (scores_are s c.args.event c.in_ok-scores.scores.items those c.in_ok-scores.ensures.order)) c.counted.ensures
