use Rattle.std.proofs.Common.{map, refl, ap, sym, ◌∙◌, subst}
use Rattle.store_tables.specs.Cells.{game_cells}
use Rattle.store_tables.specs.internal.Cells.{score_cells}
use Rattle.store_tables.specs.Changes.{HaveSame}
use Rattle.club_rows.specs.Club.{tables}
use Rattle.club_reads.proofs.Proved.{games_begin}
use Rattle.store_tables.proofs.Proved.{clean_before, reads_on, rows_after}
use Rattle.store.proofs.sweep.swept.Goals as goal

pub returns-clause-step : goal.returns-clause-step
returns-clause-step g c clean s is_club k =
    let listed = clean_before c.list-2.ensures.reads clean in
    let games = ap (map game_cells) c.deref.ensures.value
    ∙ c.in_ok-games.ensures.rows listed refl (tables s) k (games_begin s) in
    let after = rows_after c.in_ok-games.ensures.reads listed (tables s) k in
    let scores = subst (λ l. HaveSame (map score_cells l) (tables s 14)) (sym c.deref-2.ensures.value)
    (c.in_ok-scores.ensures.same clean (tables s) after) in
    c.in_ok-decided.ensures.step s is_club games scores

pub returns-clause-reads : goal.returns-clause-reads
returns-clause-reads g c = reads_on c.in_ok-games.ensures.reads c.in_ok-scores.ensures.reads
