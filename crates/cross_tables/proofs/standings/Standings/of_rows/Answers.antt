use Rattle.std.proofs.Common.{◌≡◌, ◌+◌, ◌<◌, Err, ap, ℕ, List, length, take, sym, subst, arith}
use Rattle.std.proofs.lemmas.List.{take_all, take_more}
use Rattle.cross_tables.specs.declared.sums.OpponentScore.{OpponentScore}
use Rattle.cross_tables.specs.Totals.{AreTotals, totals}
use Rattle.cross_tables.specs.internal.Totals.{Fit}
use Rattle.cross_tables.specs.declared.standings.StandingsFault.TheVariants.{TooMany}
use Rattle.std.proofs.lemmas.Result.{err_from_is_err_and}
use Rattle.cross_tables.proofs.Adding.{sums-at, Fit-take}
use Rattle.cross_tables.proofs.Alike.{only-one}
use Rattle.cross_tables.proofs.standings.Standings.of_rows.Goals as goal

pub returns-in_err-add-clause-too_many : goal.returns-in_err-add-clause-too_many
returns-in_err-add-clause-too_many c = λ is.
    let rows : List OpponentScore = c.args.rows.now in
    let i : ℕ = c.loop-row.row-index in
    let within : i < length rows = omega arith in
    let (fault, was, same) = err_from_is_err_and c.from_residual.result c.from_residual.ensures.1 in
    let full : c.in_err-add.field-0.0 ≡ TooMany = cc in
    let never = c.in_err-add.ensures.too_many (ap Err full) (take i rows) c.loop-row.invariant in
    (_, λ fit. never (subst Fit (ap (totals _) (take_more rows i _ within)) (Fit-take rows (i + 1) _ fit)))

pub loop-row-preserved : goal.loop-row-preserved
loop-row-preserved c =
    let rows : List OpponentScore = c.args.rows.now in
    let within : c.loop-row.row-index < length rows = omega arith in
    subst (λ rs. AreTotals c.add.new.self rs) (sym (take_more rows c.loop-row.row-index _ within))
    (c.in_ok-add.ensures.adds (take c.loop-row.row-index rows) c.loop-row.invariant)

pub returns-clause-totals : goal.returns-clause-totals
returns-clause-totals c =
    let rows : List OpponentScore = c.args.rows.now in
    let all = take_all c.loop-row.row-index rows (omega (arith, c.loop-row-test.false)) in
    c.rank.ensures.totals rows (subst (AreTotals c.loop-row.standings) all c.loop-row.invariant)

pub returns-clause-only : goal.returns-clause-only
returns-clause-only c = λ others t ranked.
    only-one others c.rank.new.self c.args.rows.now t (returns-clause-totals c) ranked c.rank.ensures.ranked

pub returns-clause-each : goal.returns-clause-each
returns-clause-each c = λ place d h. sums-at c.rank.new.self c.args.rows.now (returns-clause-totals c) place d h
