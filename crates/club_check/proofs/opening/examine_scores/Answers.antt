use Rattle.std.proofs.Common.{inl, refl, map, sym, ◌∙◌, subst, inr}
use Rattle.sqlite.specs.Held.{state}
use Rattle.store_tables.specs.Cells.{IsScore}
use Rattle.store_tables.specs.internal.Cells.{score_cells}
use Rattle.club_audit.specs.internal.Standings.{AreGamesOf}
use Rattle.club_rows.specs.Club.{both_games}
use Rattle.club_rows.specs.EachOnce.{AreEachOnce}
use Rattle.club_rows.specs.Scores.{scores_in}
use Rattle.club_check.proofs.PlayedLemmas.{scores_blamed, score_types_wrong, scores_none}
use Rattle.store_tables.specs.Tables.{scores}
use Rattle.store_tables.specs.declared.names.Table.TheVariants.{Scores}
use Rattle.club_check.proofs.StoredLemmas.{stands}
use Rattle.club_check.proofs.ClubLemmas.{names_both}
use Rattle.club_check.proofs.FirstWrong.{damaged_same}
use Rattle.club_check.proofs.opening.examine_scores.Goals as goal

pub returns-in-Ok-true-clause-found : goal.returns-in-Ok-true-clause-found
returns-in-Ok-true-clause-found g c clean has =
    record {
      rows_of = map score_cells c.in-Ok.scores.items;
      read = c.in-Ok.ensures.rows clean (stands Scores tt has);
      are = λ t of.
          subst (λ rows. AreEachOnce (map score_cells rows) (scores_in both_games t.games)) c.deref-2.ensures.value
          (c.in-Ok-true.ensures.sound c.in-Ok-true.field-0-test t
          (subst (AreGamesOf t) (sym c.deref.ensures.value) of));
    }

-- the scores are those of no club with these games
pub returns-in-Ok-false-clause-scores : goal.returns-in-Ok-false-clause-scores
returns-in-Ok-false-clause-scores g c clean has t is = (
  sym (damaged_same Scores t is),
  scores_none c.args.rows.now c.in-Ok.scores.items _ _ (c.in-Ok.ensures.rows clean (stands Scores tt has))
      (λ s of once.
      sym c.in-Ok-false.field-0-test
      ∙ c.in-Ok-false.ensures.complete s (subst (AreGamesOf s) (sym c.deref.ensures.value) of)
      (subst (λ rows. AreEachOnce (map score_cells rows) (scores_in both_games s.games))
      (sym c.deref-2.ensures.value) once)),
)

pub returns-in-Ok-false-clause-reason_is_right : goal.returns-in-Ok-false-clause-reason_is_right
returns-in-Ok-false-clause-reason_is_right g c clean version has =
    inr (scores_blamed c.args.rows.now version _ (returns-in-Ok-false-clause-scores g c clean has Scores refl).1)

pub returns-in-Err-clause-scores : goal.returns-in-Err-clause-scores
returns-in-Err-clause-scores g c clean has =
    score_types_wrong c.args.rows.now (state g.S.Store c.args.conn.now) c.in-Err.fault
    (c.in-Err.ensures.reason_is_right clean (stands Scores tt has))

pub returns-in-Err-clause-reason_is_right : goal.returns-in-Err-clause-reason_is_right
returns-in-Err-clause-reason_is_right g c clean version has =
    inl (names_both Scores (scores 14) 7 IsScore (state g.S.Store c.args.conn.now) _ refl refl (λ content all. all)
    (c.in-Err.ensures.reason_is_right clean (stands Scores tt has)))
