use Rattle.std.proofs.Common.{◌≡◌, Err, refl, ap, sym, ◌∙◌, arith}
use Rattle.std.proofs.lemmas.Option.{slice_get_read}
use Rattle.club_rows.specs.internal.Columns.{columns_in}
use Rattle.club_changes.specs.declared.swept.fault.SweepFault.TheVariants.{InconsistentRows}
use Rattle.club_changes.proofs.SweptLemmas.{read_here, stays_next, ends_next, sums_few, ended_few, swept_all}
use Rattle.club_changes.proofs.swept.rows.swept_rows.Goals as goal

pub returns-in_default-clause-unfit : goal.returns-in_default-clause-unfit
returns-in_default-clause-unfit c = λ unfit s is_club rows_are same.
    read_here s c.args.moment is_club c.args.games.now rows_are c.loop-game.game-index c.game-item.result
    (slice_get_read _ _ _ _ refl c.loop-game-test.true c.game-item.is) c.in_default.ensures

pub loop-game-preserved-in_default-late_side : goal.loop-game-preserved-in_default-late_side
loop-game-preserved-in_default-late_side c = λ s is_club rows_are same.
    stays_next s c.args.moment is_club c.args.games.now rows_are c.loop-game.game-index c.game-item.result
    (slice_get_read _ _ _ _ refl c.loop-game-test.true c.game-item.is) (columns_in c.in-Some.stored) c.in-Some.ensures.0
    _ _ _ (sym c.late_side.ensures ∙ c.in_default-late_side.is) (c.loop-game.invariant s is_club rows_are same)

pub loop-game-preserved : goal.loop-game-preserved
loop-game-preserved c = λ s is_club rows_are same.
    ends_next s c.args.moment is_club c.args.games.now rows_are c.loop-game.game-index c.game-item.result
    (slice_get_read _ _ _ _ refl c.loop-game-test.true c.game-item.is) (columns_in c.in-Some.stored) c.in-Some.ensures.0
    c.lost_by-score.result c.in-Some-late_side.side _ _ _ _ _ _ _
    (sym c.late_side.ensures ∙ c.in-Some-late_side.is) c.lost_by-score.ensures c.in_ok-lost_row.ensures
    c.in_ok-push.ensures.items c.in_ok-put_scores.ensures.puts (c.loop-game.invariant s is_club rows_are same)

pub returns-clause-rows : goal.returns-clause-rows
returns-clause-rows c = λ s is_club rows_are same.
    let past = c.loop-game-test.false in
    let most = c.loop-game.auto.game-index-end in
    swept_all s c.args.moment c.args.games.now c.loop-game.game-index _ _ rows_are (omega (arith, past, most))
    (omega (arith, c.in-Ok.ensures, c.len.ensures)) (c.loop-game.invariant s is_club rows_are same)

pub returns-in_err-put_scores-clause-unfit : goal.returns-in_err-put_scores-clause-unfit
returns-in_err-put_scores-clause-unfit c = λ unfit s is_club rows_are same.
    let fault : c.in_err-put_scores.field-0.0 ≡ InconsistentRows = sym (rw unfit at c.from_residual-in_err-put_scores.ensures.1) in
    sums_few s c.args.moment is_club _ _ _ _ (c.loop-game.invariant s is_club rows_are same)
    (c.in_err-put_scores.ensures.unfit (ap Err fault))

pub returns-in_default-try_from-clause-unfit : goal.returns-in_default-try_from-clause-unfit
returns-in_default-try_from-clause-unfit c = λ unfit s is_club rows_are same.
    let few = ended_few s c.args.moment is_club _ _ _ _ (c.loop-game.invariant s is_club rows_are same) in
    c.in_default-try_from.ensures (omega (arith, few, c.len.ensures))
