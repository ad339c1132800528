use Rattle.std.proofs.Common.{◌≡◌, ◌∷◌, [], true, rules}
use Rattle.std.proofs.lemmas.Option.{slice_get-get_or}
use Rattle.sqlite_trees.proofs.ListLemmas.{ascending-append, all_weaker}
use Rattle.store_tables.specs.internal.Cells.{score_cells}
use Rattle.club_answers.specs.CrossTable.{ComesBefore, scored_row}
use Rattle.club_answers.proofs.ViewedLemmas.{one_more}
use Rattle.club_answers.proofs.scored.scored_rows.Goals as goal

pub loop-row-preserved : goal.loop-row-preserved
loop-row-preserved c =
    let rows = c.args.rows.now in
    let scores = c.loop-row.scores.items in
    let order = c.loop-row.invariant.order in
    let last : c.comes_last.result ≡ true = search rules in
    let after = (rw c.deref.ensures.value at (c.comes_last.ensures last)) order in
    record {
      rows = one_more score_cells (scored_row c.args.event) rows c.loop-row.row-index _ scores c.push.new.self.items
          c.in-Some.scored c.loop-row.invariant.rows (slice_get-get_or rows c.loop-row.row-index _ (search rules))
          c.in-Some.ensures c.in_ok-push.ensures.items;
      order = rw c.in_ok-push.ensures.items
          (ascending-append ComesBefore scores (c.in-Some.scored ∷ []) order (tt, tt)
          (all_weaker _ _ (λ x before. (before, tt)) scores after));
    }
