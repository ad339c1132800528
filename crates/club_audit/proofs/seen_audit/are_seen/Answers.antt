use Rattle.std.proofs.Common.{ap, sym, subst, ◌∙◌, arith, map}
use Rattle.store_tables.specs.Cells.{seen_cells}
use Rattle.club_rows.specs.EachOnce.{AreEachOnce}
use Rattle.club_rows.specs.Seen.{rows_of_texts}
use Rattle.club_audit.specs.internal.SeenAudit.{texts_in}
use Rattle.club_audit.proofs.SeenCounts.{texts-told, moves-count}
use Rattle.club_audit.proofs.seen_audit.are_seen.Goals as goal

pub returns-clause-sound : goal.returns-clause-sound
returns-clause-sound g c = λ yes terms played few moves.
    let laws = g.R.Rules.rules in
    let count = moves-count laws terms c.args.game played c.args.moves.now moves in
    let told = texts-told laws terms c.args.game played c.args.moves.now c.as_str.result.now moves
    (c.as_str.ensures.value ∙ (c.in_ok-start.ensures ∙ ap laws.write_position c.start.ensures)) in
    subst (λ texts. AreEachOnce (map seen_cells c.args.rows.now) (rows_of_texts c.args.game texts)) told
    (c.are_counted.ensures.sound yes (texts_in c.as_str.result.now c.args.moves.now)
    (c.in_ok-counts.ensures (omega (arith, count, few))))

pub returns-clause-complete : goal.returns-clause-complete
returns-clause-complete g c = λ terms played few moves are.
    let laws = g.R.Rules.rules in
    let count = moves-count laws terms c.args.game played c.args.moves.now moves in
    let told = texts-told laws terms c.args.game played c.args.moves.now c.as_str.result.now moves
    (c.as_str.ensures.value ∙ (c.in_ok-start.ensures ∙ ap laws.write_position c.start.ensures)) in
    c.are_counted.ensures.complete (texts_in c.as_str.result.now c.args.moves.now)
    (c.in_ok-counts.ensures (omega (arith, count, few)))
    (subst (λ texts. AreEachOnce (map seen_cells c.args.rows.now) (rows_of_texts c.args.game texts)) (sym told) are)
