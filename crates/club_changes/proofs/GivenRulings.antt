-- What is decided of a ruling on a game, the row of the ruling, and the rows that are put.
use Rattle.std.proofs.Common.{◌≡◌, ℕ, ◌+◌, ◌<◌, ◌≤◌, ◌^◌, List, [], ◌∷◌, ◌++◌, length, Option, Some, None}
use Rattle.std.proofs.Common.{true, refl, ap, sym, subst, ◌∙◌, arith, length-append}
use Rattle.std.proofs.lemmas.List.{length-map}
use Rattle.std.proofs.lemmas.Option.{slice_get_past}
use Rattle.std.specs.Prelude.{◌≢◌, IsTrue, is_some, slice_get}
use Rattle.club_rules.specs.GameRules.{GameRules}
use Rattle.club_requests.specs.declared.answers.Answer.{Answer}
use Rattle.club_requests.specs.declared.answers.Outcome.TheVariants as given_is
use Rattle.club_requests.specs.declared.outside_end.OutsideEnd.{OutsideEnd}
use Rattle.club_requests.specs.declared.requests.Caller.{Caller}
use Rattle.club_requests.specs.declared.requests.Caller.TheVariants.{Officer, Member as by_key}
use Rattle.club_requests.specs.declared.rulings.Ruling.{Ruling}
use Rattle.club_requests.specs.declared.rulings.Verdict.{Verdict}
use Rattle.club_requests.specs.Limits.{is_budget, is_increment, most_plies, most_rulings}
use Rattle.club_requests.specs.Outcome.{Outcome, Reply, accepted, by_officer, refused, repeated}
use Rattle.club_requests.specs.Rulings.{has_grant_time, verdict_in}
use Rattle.club_core.specs.Answer.{outcome_of}
use Rattle.club_core.specs.Events.{Terms}
use Rattle.club_core.specs.Game.{Game, clocks_of, end_of, end_with, moves_of}
use Rattle.club_core.specs.Legal.{IsLegalGame}
use Rattle.club_core.specs.Rulings.{GivenRuling, verdict_of}
use Rattle.club_core.specs.Step.{ruled, ruling_step}
use Rattle.club_core.specs.View.{IsRowOf}
use Rattle.club_core.specs.internal.View.{HasMade, IsConcluded, RepetitionIfMoved}
use Rattle.club_core.specs.declared.decided.Decision.{Decision}
use Rattle.club_core.specs.declared.decided.Decision.TheVariants as decision
use Rattle.club_core.specs.declared.rows.Made.{Made}
use Rattle.club_core.specs.declared.rows.GameRow.{GameRow}
use Rattle.club_laws.proofs.Proved.{WasRuled, each-append, nat_le-false, ruled-later, ruling-before-end, ruling-next}
use Rattle.club_laws.proofs.Proved.{was-ruled}
use Rattle.sqlite.specs.Order.{Row}
use Rattle.store_tables.specs.declared.rows.Changes.{Changes}
use Rattle.store_tables.specs.declared.rows.RulingRow.{RulingRow}
use Rattle.store_tables.specs.Cells.{ruling_cells}
use Rattle.club_rows.specs.Tables.{game_row, kept_by, replaced_by, ruling_row}
use Rattle.club_changes.specs.declared.decided.CommandEffect.{CommandEffect}
use Rattle.club_changes.specs.declared.rulings.RulingRows.{RulingRows}
use Rattle.club_changes.specs.internal.Steps.{AreScoresRuled, HasRulingRow, HasTwoPlayers, IsRuledIn, Puts}
use Rattle.club_changes.specs.internal.Steps.{no_rows, ruling_list, score_list}
use Rattle.club_changes.proofs.PlayedLemmas.{IsTold}
use Rattle.club_changes.proofs.RoomLemmas.{room_for}

module _ {P M E T : Type 0} (laws : GameRules P M E T) (terms : Terms) (id : ℕ) (g : Game M) (number : ℕ)
    (ruling : Ruling) (moment : ℕ) where
  -- only the officer gives a ruling
  given_by : (who : Caller) (new : Game M) (reply : Reply)
      → by_officer who (ruling_step laws g number ruling moment) ≡ accepted new reply
      → WasRuled laws g number ruling moment new reply
  given_by Officer new reply is = was-ruled laws g number ruling moment new reply is
  given_by (by_key m) new reply is = cc

  -- ---- the row of the ruling

  module _ (was : GameRow E) (is_row : IsRowOf laws terms g was) (legal : IsLegalGame laws terms g) (r : RulingRow)
      (over : Option OutsideEnd)
      (beneath : (verdict : Option Verdict) → was.end ≡ end_with None verdict was.outside
      → over ≡ replaced_by (verdict_in ruling) (kept_by verdict was.outside))
      (cells : number < 2 ^ 63 → was.plies < 2 ^ 63 → has_grant_time ruling ≡ true → ruling_cells r
      ≡ ruling_row id number (record { ruling = ruling; moment = moment; plies = was.plies }) over) where
    row_after : (who : Caller) (o : Outcome (Game M)) → by_officer who (ruling_step laws g number ruling moment) ≡ o
        → HasRulingRow id g ruling moment o (Some r)
    row_after who (accepted new reply) is =
        let given = given_by who new reply is in
        let (next, within) = ruling-next laws g number ruling moment given.tests in
        let verdict = verdict_of g.rulings in
        let end : was.end ≡ end_with None verdict was.outside =
        is_row.end
        ∙ (ap (λ e. end_with e verdict g.outside) (ruling-before-end laws g number ruling moment given.tests)
        ∙ ap (λ o. end_with None verdict o) (sym is_row.outside)) in
        let over_is : over ≡ replaced_by (verdict_in ruling) (kept_by verdict g.outside) =
        beneath verdict end ∙ ap (λ o. replaced_by (verdict_in ruling) (kept_by verdict o)) is_row.outside in
        let count : length g.rulings ≤ most_rulings = legal.rulings.count in
        let plies : length g.entries ≤ most_plies = legal.plies in
        let played : was.plies ≡ length g.entries = is_row.plies in
        let number_is : number ≡ length g.rulings + 1 = omega (arith, next) in
        ap (λ row. row ∷ [])
        (cells (omega (arith, number_is, count)) (omega (arith, played, plies)) within
        ∙ (λ i. ruling_row id (number_is i) (record { ruling = ruling; moment = moment; plies = played i })
        (over_is i)))
    row_after who (repeated reply) is = tt
    row_after who (refused refusal) is = tt

    pub row_given : (who : Caller)
        → HasRulingRow id g ruling moment (by_officer who (ruling_step laws g number ruling moment)) (Some r)
    row_given who = row_after who (by_officer who (ruling_step laws g number ruling moment)) refl

  -- nothing is put where the decision accepted nothing
  pub no_row : {R : Type 0} (shown : Decision R P M E T) (o : Outcome (Game M)) → IsConcluded laws terms g o shown
      → ((row : GameRow E) (made : Option (Made R P M E T)) (answer : Answer)
      → shown ≡ decision.Accepted row made answer → ⊥)
      → HasRulingRow id g ruling moment o None
  no_row (decision.Accepted row made answer) o is none = absurd (none row made answer refl)
  no_row (decision.Repeated answer) (repeated reply) is none = tt
  no_row (decision.Refused why) (refused refusal) is none = tt
  no_row _ _ is none = absurd is

  -- ---- no move

  unmoved_after : {R : Type 0} (who : Caller) (o : Outcome (Game M)) (d : Decision R P M E T)
      → by_officer who (ruling_step laws g number ruling moment) ≡ o → HasMade laws g o d
      → RepetitionIfMoved laws o d 0 0
  unmoved_after who (accepted new reply) (decision.Accepted row (Some made) answer) is has =
      let given = given_by who new reply is in
      let count : length (moves_of new) ≡ length new.entries = simp length-map in
      let same : length new.entries ≡ length g.entries = ap (λ x. length x.entries) (sym given.stands) in
      let past : slice_get (moves_of new) (length g.entries) ≡ None =
      slice_get_past (moves_of new) (length g.entries) (omega (arith, count, same)) in
      let nothing = rw past at has in
      absurd nothing
  unmoved_after who (repeated reply) (decision.Accepted row (Some made) answer) is has = tt
  unmoved_after who (refused refusal) (decision.Accepted row (Some made) answer) is has = tt
  unmoved_after who o _ is has = tt

  -- a ruling makes no move, so that no position is counted
  pub ruled_unmoved : {R : Type 0} (who : Caller) (d : Decision R P M E T)
      → HasMade laws g (by_officer who (ruling_step laws g number ruling moment)) d
      → RepetitionIfMoved laws (by_officer who (ruling_step laws g number ruling moment)) d 0 0
  ruled_unmoved who d has = unmoved_after who (by_officer who (ruling_step laws g number ruling moment)) d refl has

  -- ---- the players

  players_after : {R : Type 0} (who : Caller) (o : Outcome (Game M)) (shown : Decision R P M E T)
      → by_officer who (ruling_step laws g number ruling moment) ≡ o → IsConcluded laws terms g o shown
      → g.first ≢ g.second → HasTwoPlayers shown
  players_after who (accepted new reply) (decision.Accepted row made answer) is shown apart =
      let given = given_by who new reply is in
      let first : row.first ≡ g.first = shown.0.first ∙ ap (λ x. x.first) (sym given.stands) in
      let second : row.second ≡ g.second = shown.0.second ∙ ap (λ x. x.second) (sym given.stands) in
      λ same. apart (sym first ∙ (same ∙ second))
  players_after who (repeated reply) (decision.Accepted row made answer) is shown apart = absurd shown
  players_after who (refused refusal) (decision.Accepted row made answer) is shown apart = absurd shown
  players_after who o (decision.Repeated answer) is shown apart = tt
  players_after who o (decision.Refused why) is shown apart = tt

  -- the game of an accepted ruling has two players
  pub ruled_players : {R : Type 0} (who : Caller) (shown : Decision R P M E T)
      → IsConcluded laws terms g (by_officer who (ruling_step laws g number ruling moment)) shown
      → g.first ≢ g.second → HasTwoPlayers shown
  ruled_players who shown is apart =
      players_after who (by_officer who (ruling_step laws g number ruling moment)) shown refl is apart

  -- ---- what is decided

  module _ (table : List Row) where
    pub none_ruled : {R : Type 0} (o : Outcome (Game M)) (shown : Decision R P M E T) (d : CommandEffect)
        → IsConcluded laws terms g o shown → IsTold shown d.outcome → d.changes ≡ None
        → IsRuledIn laws terms id moment table g o d
    none_ruled (repeated reply) (decision.Repeated answer) d is told none =
        record { answer = ap outcome_of told ∙ ap (λ r. repeated r) is; puts = rw none tt }
    none_ruled (refused refusal) (decision.Refused why) d is told none =
        record { answer = ap outcome_of told ∙ ap (λ r. refused r) is; puts = rw none tt }
    none_ruled o (decision.Accepted row made answer) d is told none = absurd told
    none_ruled (accepted new reply) _ d is told none = absurd is
    none_ruled (repeated reply) _ d is told none = absurd is
    none_ruled (refused refusal) _ d is told none = absurd is

    module _ (was : GameRow E) (is_row : IsRowOf laws terms g was) (legal : IsLegalGame laws terms g)
        (budget : IsTrue (is_budget terms.budget)) (increment : IsTrue (is_increment terms.increment)) where
      -- the seconds of both fit the table
      room_ruled : (new : Game M) (reply : Reply) → WasRuled laws g number ruling moment new reply
          → ((clocks_of new terms).left_first < 2 ^ 63) × ((clocks_of new terms).left_second < 2 ^ 63)
      room_ruled new reply given =
          let r : GivenRuling = record { ruling = ruling; moment = moment; plies = length g.entries } in
          let (next, within) = ruling-next laws g number ruling moment given.tests in
          let few : length g.rulings < most_rulings =
          nat_le-false most_rulings (length g.rulings) given.tests.1.1.1.0 in
          let counted : length (g.rulings ++ r ∷ []) ≡ length g.rulings + 1 = simp length-append in
          let plies : length g.entries ≤ most_plies = legal.plies in
          rw (← given.stands)
          (room_for (ruled g ruling moment) terms budget increment (omega (arith, plies))
          (omega (arith, few, counted))
          (each-append (λ x. has_grant_time x.ruling ≡ true) g.rulings r
          (λ n x at. (legal.rulings.each n x at).time) within))

      module _ {R : Type 0} (row : GameRow E) (made : Option (Made R P M E T)) (answer : Answer) (rows : RulingRows)
          (c : Changes)
          (put : (terms : Terms) (new : Game M) → row.left_first < 2 ^ 63 → row.left_second < 2 ^ 63
          → IsRowOf laws terms new row
          → Puts c moment (record no_rows {
            games = game_row laws terms id new ∷ [];
            rulings = ruling_list rows.ruling;
            scores = score_list rows.scores;
          })) where
        abbrev effect : CommandEffect
        effect = record { outcome = given_is.Accepted answer; changes = Some c }

        ruled_by : (who : Caller) (o : Outcome (Game M))
            → by_officer who (ruling_step laws g number ruling moment) ≡ o
            → IsConcluded laws terms g o (decision.Accepted row made answer)
            → HasRulingRow id g ruling moment o rows.ruling
            → AreScoresRuled table was (decision.Accepted row made answer) rows.scores
            → IsRuledIn laws terms id moment table g o effect
        ruled_by who (accepted new reply) is shown has scores =
            let given = given_by who new reply is in
            let is_new = shown.0 in
            let room = room_ruled new reply given in
            let clocks = sym is_new.clocks in
            let stays : is_some (end_of laws g) ≡ true → is_some (end_of laws new) ≡ true =
            λ over. rw (← given.stands) ((ruled-later laws g number ruling moment).over over).1 in
            record {
              answer = ap (λ r. accepted tt r) shown.2;
              puts = record {
                ruling = ruling;
                new_is = sym given.stands;
                over = stays;
                scores = score_list rows.scores;
                scores_are = rw (
                  is_new.event,
                  is_new.first,
                  is_new.second,
                  is_row.end,
                  is_row.result,
                  is_new.end,
                  is_new.result,
                ) at scores;
                puts = rw has at
                    (put terms new (subst (λ k. k.left_first < 2 ^ 63) clocks room.0)
                    (subst (λ k. k.left_second < 2 ^ 63) clocks room.1) is_new);
              };
            }
        ruled_by who (repeated reply) is shown has scores = absurd shown
        ruled_by who (refused refusal) is shown has scores = absurd shown

        -- by the decision as it was given
        pub given_ruling : (who : Caller) (shown : Decision R P M E T) → shown ≡ decision.Accepted row made answer
            → IsConcluded laws terms g (by_officer who (ruling_step laws g number ruling moment)) shown
            → HasRulingRow id g ruling moment (by_officer who (ruling_step laws g number ruling moment)) rows.ruling
            → AreScoresRuled table was shown rows.scores
            → IsRuledIn laws terms id moment table g (by_officer who (ruling_step laws g number ruling moment)) effect
        given_ruling who shown was_is is has scores =
            ruled_by who (by_officer who (ruling_step laws g number ruling moment)) refl
            (subst (IsConcluded laws terms g (by_officer who (ruling_step laws g number ruling moment))) was_is is) has
            (subst (λ d. AreScoresRuled table was d rows.scores) was_is scores)
