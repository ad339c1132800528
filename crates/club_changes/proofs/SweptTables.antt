-- The tables of a club after a sweep.
use Rattle.std.proofs.Common.{◌≡◌, ℕ, map, Some, None, refl, ap, sym, inr}
use Rattle.store_tables.specs.Cells.{game_cells}
use Rattle.store_tables.specs.internal.Cells.{score_cells}
use Rattle.store_tables.specs.declared.rows.Changes.{Changes}
use Rattle.club_requests.specs.declared.answers.Answer.TheVariants as answer_is
use Rattle.club_requests.specs.declared.answers.Outcome.TheVariants as given_is
use Rattle.club_requests.specs.declared.refusals.Refusal.TheVariants.{NotAllowed}
use Rattle.club_requests.specs.declared.requests.Caller.{Caller}
use Rattle.club_requests.specs.declared.requests.Caller.TheVariants.{Officer, Member}
use Rattle.club_core.specs.Answer.{outcome_of}
use Rattle.club_core.specs.State.{sweep, with_swept}
use Rattle.club_rows.specs.Club.{both_games, ClubState}
use Rattle.club_changes.specs.internal.Swept.{IsSwept, LeavesOthers}
use Rattle.club_changes.specs.declared.swept.rows.SweptRows.{SweptRows}
use Rattle.club_changes.proofs.LateGames.{leaves_others}
use Rattle.club_changes.specs.declared.decided.CommandEffect.{CommandEffect}
use Rattle.club_changes.specs.internal.Steps.{Puts, caller_step, IsDecided, no_rows}
use Rattle.club_changes.proofs.OutcomeLemmas.{all_decided, moment_put, none_decided}
use Rattle.club_changes.proofs.PutSame.{◌&◌, same_by}

-- the rows that are put make the tables of the club after it
pub swept_decided : (s : ClubState) (moment : ℕ) (rows : SweptRows) → IsSwept s moment rows → (c : Changes)
    → Puts c moment
    (record no_rows { games = map game_cells rows.games.items; scores = map score_cells rows.scores.items })
    → IsDecided s (caller_step s moment Officer sweep)
    (record { outcome = given_is.Accepted (answer_is.Swept rows.count); changes = Some c })
swept_decided s moment rows swept c are =
    let others : LeavesOthers s moment = leaves_others s moment in
    all_decided s (caller_step s moment Officer sweep) (with_swept both_games s moment)
    (given_is.Accepted (answer_is.Swept rows.count)) c moment _
    (ap (λ n. outcome_of (given_is.Accepted (answer_is.Swept n))) swept.count_is) refl are (inr (refl, refl, refl))
    (moment_put s moment
    & same_by _ _ (sym others.members_stay) & same_by _ _ (sym others.events_stay)
    & same_by _ _ (sym others.challenges_stay) & same_by _ _ (sym others.moves_stay)
    & swept.games_are
    & same_by _ _ (sym others.seen_stays)
    & swept.scores_are
    & same_by _ _ (sym others.rules_stay)
    & same_by _ _ (sym others.keys_stay) & same_by _ _ (sym others.rulings_stay)
    & same_by _ _ (sym others.closings_stay) & tt)

-- a sweep that a member asks for is refused
pub member_refused : (s : ClubState) (moment : ℕ) (who : Caller) (id : ℕ) (d : CommandEffect) → who ≡ Member id
    → d.outcome ≡ given_is.Refused NotAllowed → d.changes ≡ None → IsDecided s (caller_step s moment who sweep) d
member_refused s moment who id d is outcome none =
    rw is
    (none_decided s (caller_step s moment (Member id) sweep) d (given_is.Refused NotAllowed) outcome none refl refl)
