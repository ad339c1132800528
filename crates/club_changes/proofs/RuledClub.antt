-- The tables of a club after a ruling on one of its games, and what is decided of the command.
use Rattle.std.proofs.Common.{◌≡◌, inl, inr, ℕ, suc, ◌+◌, ◌-◌, ◌<◌, List, [], ◌∷◌, ◌++◌, length, pos}
use Rattle.std.proofs.Common.{Option, Some, None, true, false, refl, ap, sym, subst, subst₂, ◌∙◌, arith}
use Rattle.std.specs.Prelude.{◌≢◌, is_some, slice_get, slice_set}
use Rattle.squares.specs.declared.sides.Score.{Score}
use Rattle.club_rules.specs.declared.names.GameKind.{GameKind}
use Rattle.club_rules.specs.GameRules.{GameRules}
use Rattle.club_requests.specs.declared.answers.Outcome.TheVariants as given_is
use Rattle.club_requests.specs.declared.outside_end.OutsideEnd.{OutsideEnd}
use Rattle.club_requests.specs.declared.refusals.Refusal.TheVariants.{NotAllowed, UnknownGame}
use Rattle.club_requests.specs.declared.requests.Caller.{Caller}
use Rattle.club_requests.specs.declared.requests.Caller.TheVariants.{Officer, Member as by_key}
use Rattle.club_requests.specs.declared.rulings.Ruling.{Ruling}
use Rattle.club_requests.specs.Outcome.{Outcome, accepted, by_officer, map_outcome, refused, repeated}
use Rattle.club_core.specs.Answer.{answered}
use Rattle.club_core.specs.declared.rows.GameEnd.{GameEnd}
use Rattle.club_core.specs.Game.{Game, end_of, result_of}
use Rattle.club_core.specs.Rulings.{GivenRuling}
use Rattle.club_core.specs.State.{draughts, shogi, place, rule, state_after, step_ruling, terms_at, with_game}
use Rattle.club_core.specs.State.{rulings_of}
use Rattle.club_core.specs.Step.{ruling_step}
use Rattle.sqlite.specs.Order.{Row, column}
use Rattle.sqlite_rules.specs.Lists.{Has}
use Rattle.store_tables.specs.Content.{same_key}
use Rattle.store_tables.specs.internal.Cells.{score_cells}
use Rattle.store_tables.specs.internal.Changes.{put_rows}
use Rattle.store_tables.specs.declared.rows.Changes.{Changes}
use Rattle.store_tables.proofs.Proved.{altered}
use Rattle.club_rows.specs.Club.{ClubGame, ClubState, IsClub, both_games, tables}
use Rattle.club_rows.specs.internal.Replay.{terms_given}
use Rattle.club_rows.specs.Scores.{meetings, scores_in}
use Rattle.club_rows.specs.Tables.{move_rows, number, row_of_game, rows_of_moves, rows_of_rulings, rows_of_seen}
use Rattle.club_rows.specs.Tables.{ruling_rows, ruling_rows_from}
use Rattle.club_rows.proofs.Proved.{Kind, met_ended, ruled-last, scores_changed, seen-stay}
use Rattle.club_changes.specs.declared.decided.CommandEffect.{CommandEffect}
use Rattle.club_changes.specs.declared.stored.StoredGame.{StoredGame}
use Rattle.club_changes.specs.Steps.{HaveSame, IsRecordOf}
use Rattle.club_changes.specs.internal.Stored.{IsStoredGame}
use Rattle.club_changes.specs.internal.Steps.{FindsSeenRows, IsDecided, IsRuledIn, Makes, Puts, PutsRuled}
use Rattle.club_changes.specs.internal.Steps.{PutsRuledScores, PutsRuling, caller_step, next_ruling_row, no_rows}
use Rattle.club_changes.proofs.ChangedLemmas.{all_changed}
use Rattle.club_changes.proofs.ClubPlayed.{moves_of_it, place_at, row_is, scores_by_end, set_to}
use Rattle.club_changes.proofs.GameRows.{stored_as, tells-seen}
use Rattle.club_changes.proofs.NextRows.{first_of_game}
use Rattle.club_changes.proofs.OutcomeLemmas.{answered_mapped, moment_put, none_decided, nothing_made}
use Rattle.club_changes.proofs.PutSame.{◌&◌, one_row_more_by, pairs_apart, row_replaced, rows_kept, same_itself}

-- ---- the rows of the rulings on a game

-- a row of one of so many rulings
ruling_had : (id n : ℕ) (o : Option OutsideEnd) (rs : List GivenRuling) (z : Row)
    → Has (ruling_rows_from id n o rs) z
    → (column z 0 ≡ number id) × ((k : ℕ) × (column z 1 ≡ number k) × (k < n + length rs))
ruling_had id n o [] z h = absurd h
ruling_had id n o (r ∷ rs) z (inl is) =
    (ap (λ w. column w 0) is, (n, ap (λ w. column w 1) is, omega arith))
ruling_had id n o (r ∷ rs) z (inr h) =
    let (first, (k, second, most)) = ruling_had id (suc n) _ rs z h in
    (first, (k, second, omega (arith, most)))

any_had : (id : ℕ) (g : ClubGame) (z : Row) → Has (rows_of_rulings id g) z
    → (column z 0 ≡ number id) × ((k : ℕ) × (column z 1 ≡ number k) × (k < 1 + length (rulings_of g)))
any_had id (draughts g) z h = ruling_had id 1 g.outside g.rulings z h
any_had id (shogi g) z h = ruling_had id 1 g.outside g.rulings z h

-- the key of the next ruling is that of no row
fresh_ruling : (s : ClubState) (n : ℕ) (old : ClubGame) (row : Row) (count : ℕ) → slice_get s.games n ≡ Some old
    → column row 0 ≡ number (1 + n) → column row 1 ≡ number (count + 1) → length (rulings_of old) ≡ count
    → (m : ℕ) (g : ClubGame) (z : Row) → slice_get s.games m ≡ Some g → Has (rows_of_rulings (1 + m) g) z
    → same_key (0 ∷ 1 ∷ []) z row ≡ false
fresh_ruling s n old row count at first second counted m g z stands has =
    let (game_is, (k, is, most)) = any_had (1 + m) g z has in
    pairs_apart z row (1 + m) (1 + n) k (count + 1) game_is first is second (λ same_game same_number.
    let here : m ≡ n = omega (arith, same_game) in
    let there : slice_get s.games m ≡ Some old = subst (λ j. slice_get s.games j ≡ Some old) (sym here) at in
    let g_is : g ≡ old = cc in
    let same : length (rulings_of g) ≡ length (rulings_of old) = ap (λ x. length (rulings_of x)) g_is in
    absurd (omega (arith, most, same, counted, same_number)))

-- an ended game stays ended
abbrev StaysEnded : {E : Type 0} → Option (GameEnd E) → Option (GameEnd E) → Type 0
StaysEnded (Some was) None = ⊥
StaysEnded _ _ = Unit {0}

stays_ended : {E : Type 0} (was end : Option (GameEnd E)) → (is_some was ≡ true → is_some end ≡ true)
    → StaysEnded was end
stays_ended (Some was) None over = let no : false ≡ true = over refl in cc
stays_ended (Some was) (Some end) over = tt
stays_ended None end over = tt

module _ {P M E T : Type 0} {laws : GameRules P M E T} {kind : GameKind} (k : Kind laws kind) (s : ClubState) where
  -- the scores that are put make the table of the club with the game after a ruling
  scores_ruled : (n : ℕ) (g new : Game M) (was end : Option (GameEnd E)) (old score : Option Score) (rows : List Row)
      → slice_get s.games n ≡ Some (k.into g) → end_of laws g ≡ was → result_of laws g ≡ old
      → end_of laws new ≡ end → result_of laws new ≡ score → new.event ≡ g.event → new.first ≡ g.first
      → new.second ≡ g.second → StaysEnded was end
      → PutsRuledScores (tables s 14) new.event new.first new.second was old end score rows
      → HaveSame (put_rows (0 ∷ 1 ∷ 2 ∷ []) rows (scores_in both_games s.games))
      (scores_in both_games (slice_set s.games n (k.into new)))
  scores_ruled n g new None end old score rows at was_is old_is end_is score_is event first second stays put =
      scores_by_end k s n g new at was_is end score rows end_is score_is put
  scores_ruled n g new (Some was) None old score rows at was_is old_is end_is score_is event first second stays put =
      absurd stays
  scores_ruled n g new (Some was) (Some end) old score rows at was_is old_is end_is score_is event first second stays
      put =
      let before = k.scores g ∙ (met_ended laws g was old was_is old_is
      ∙ (λ i. meetings (pos (sym event i)) (pos (sym first i)) (pos (sym second i)) old)) in
      let after = k.scores new ∙ met_ended laws new end score end_is score_is in
      rw put.rows_are
      (altered (0 ∷ 1 ∷ 2 ∷ []) (score_cells put.pair.first ∷ score_cells put.pair.second ∷ []) _ _
      (scores_changed both_games s.games new.event new.first new.second old score put.firsts put.seconds put.pair
      put.firsts_are put.seconds_are put.changed n (k.into g) (k.into new) at before after))

  counted : (g : Game M) → length (rulings_of (k.into g)) ≡ length g.rulings
  counted g = ap length (k.given g)

  -- the rows that are put make the tables of the club with the game after the ruling
  rule_at : (n moment : ℕ) (g new : Game M) (c : Changes) → s.has_arbiter ≡ true
      → slice_get s.games n ≡ Some (k.into g)
      → PutsRuling laws (terms_at (place s.events g.event)) (1 + n) moment (tables s 14) g new c
      → Makes s (set_to k s n moment new) (Some c)
  rule_at n moment g new c arbiter at p =
      let terms = terms_at (place s.events g.event) in
      let event = ap (λ x. x.event) p.new_is in
      let made : Row = next_ruling_row (1 + n) g p.ruling moment in
      let last = ruled-last laws terms (1 + n) g p.ruling moment in
      let row = row_is k s n g new event in
      let grown = k.rulings (1 + n) new
      ∙ (ap (ruling_rows (1 + n)) p.new_is ∙ (last.0 ∙ ap (λ rs. rs ++ made ∷ []) (sym (k.rulings (1 + n) g)))) in
      let stays = moves_of_it k s n g new event
      ∙ (ap (move_rows laws terms (1 + n)) p.new_is ∙ (last.1 ∙ sym (k.moves s.events (1 + n) g))) in
      let entries = ap (λ x. x.entries) p.new_is in
      let seen = k.seen (1 + n) new ∙ (seen-stay laws (1 + n) new g entries ∙ sym (k.seen (1 + n) g)) in
      all_changed s (set_to k s n moment new) c moment _
      (subst (Puts c moment)
      (λ j. record no_rows { games = row j ∷ []; rulings = made ∷ []; scores = p.scores }) p.puts)
      (inl arbiter)
      (moment_put s moment
      & same_itself _ & same_itself _ & same_itself _
      & rows_kept (rows_of_moves both_games s.events) s.games n (k.into g) (k.into new) at stays
      & row_replaced (row_of_game both_games s.events) (first_of_game both_games s.events) s.games n (k.into g)
      (k.into new) at
      & rows_kept (rows_of_seen both_games) s.games n (k.into g) (k.into new) at seen
      & scores_ruled n g new (end_of laws g) (end_of laws new) (result_of laws g) (result_of laws new) p.scores at refl
      refl refl refl event (ap (λ x. x.first) p.new_is) (ap (λ x. x.second) p.new_is)
      (stays_ended (end_of laws g) (end_of laws new) p.over) p.scores_are
      & same_itself _ & same_itself _
      & one_row_more_by rows_of_rulings s.games n (k.into g) (k.into new) at (0 ∷ 1 ∷ []) made grown
      (fresh_ruling s n (k.into g) made (length g.rulings) at refl refl (counted g))
      & same_itself _ & tt)

  put_ruled : (id moment : ℕ) (g : Game M) → s.has_arbiter ≡ true → place s.games id ≡ Some (k.into g)
      → (o : Outcome (Game M)) (c : Option Changes)
      → PutsRuled laws (terms_at (place s.events g.event)) id moment (tables s 14) g o c
      → Makes s (state_after s (map_outcome (λ new. with_game s moment id (k.into new)) o)) c
  put_ruled id moment g arbiter at (accepted new reply) (Some c) p =
      let (n, id_is, stands) = place_at s.games id (k.into g) at in
      let back : (1 + n) - 1 ≡ n = omega arith in
      let there : n ≡ id - 1 = sym (ap (λ i. i - 1) id_is ∙ back) in
      subst (λ m. Makes s (set_to k s m moment new) (Some c)) there
      (rule_at n moment g new c arbiter stands (rw id_is at p))
  put_ruled id moment g arbiter at (repeated reply) None p = nothing_made s
  put_ruled id moment g arbiter at (refused refusal) None p = nothing_made s
  put_ruled id moment g arbiter at (accepted new reply) None p = absurd p
  put_ruled id moment g arbiter at _ (Some c) p = absurd p

  by_both : {A B : Type 0} (f : A → B) (who : Caller) (o : Outcome A)
      → map_outcome f (by_officer who o) ≡ by_officer who (map_outcome f o)
  by_both f Officer o = refl
  by_both f (by_key id) o = refl

  -- what was decided of a ruling on the game was decided in the club
  pub ruling_decided : (id moment number : ℕ) (ruling : Ruling) (who : Caller) (g : Game M) (d : CommandEffect)
      → s.has_arbiter ≡ true → place s.games id ≡ Some (k.into g)
      → IsRuledIn laws (terms_at (place s.events g.event)) id moment (tables s 14) g
      (by_officer who (ruling_step laws g number ruling moment)) d
      → IsDecided s (caller_step s moment who (rule id number ruling)) d
  ruling_decided id moment number ruling who g d arbiter at decided =
      let f = λ (new : Game M). with_game s moment id (k.into new) in
      let o = by_officer who (ruling_step laws g number ruling moment) in
      let found = ap (step_ruling both_games s moment id number ruling) at ∙ k.ruled s moment id number ruling g in
      let step : caller_step s moment who (rule id number ruling) ≡ map_outcome f o =
      ap (by_officer who) found ∙ sym (by_both f who (ruling_step laws g number ruling moment)) in
      record {
        answer = decided.answer ∙ (sym (answered_mapped s f o) ∙ ap answered (sym step));
        makes = subst (λ x. Makes s (state_after s x) d.changes) (sym step)
            (put_ruled id moment g arbiter at o d.changes decided.puts);
      }

-- what was decided of a ruling by the rules of the game's kind was decided in the club
pub stored_ruled : {P M E T : Type 0} {laws : GameRules P M E T} {kind : GameKind} (k : Kind laws kind) (s : ClubState)
    → IsClub s → (id number moment : ℕ) (ruling : Ruling) (game : ClubGame) (stored : StoredGame) (who : Caller)
    (d : CommandEffect) → s.has_arbiter ≡ true → place s.games id ≡ Some game → IsStoredGame s id game stored
    → stored.kind ≡ kind
    → ((old : Game M) → place s.games stored.id ≡ Some (k.into old) → FindsSeenRows laws stored.id old (tables s)
    → IsRecordOf laws (terms_given stored.terms) stored.id stored.row old
    → IsRuledIn laws (terms_given stored.terms) stored.id moment (tables s 14) old
    (by_officer who (ruling_step laws old number ruling moment)) d)
    → IsDecided s (caller_step s moment who (rule id number ruling)) d
stored_ruled {laws = laws} k s is_club id number moment ruling game stored who d arbiter at is kind_is step =
    let (g, of) = stored_as k s is_club id game stored at is kind_is in
    let there = subst (λ i. place s.games i ≡ Some (k.into g)) (sym is.id_is) of.here in
    let tells = subst (λ i. FindsSeenRows laws i g (tables s)) (sym is.id_is) (tells-seen k s id g of.here) in
    ruling_decided k s id moment number ruling who g d arbiter of.here
    (subst₂
    (λ t i. IsRuledIn laws t i moment (tables s 14) g (by_officer who (ruling_step laws g number ruling moment)) d)
    of.terms is.id_is (step g there tells of.is_row))

-- ---- a ruling that is refused before the game is read

pub other_ruled : (s : ClubState) (id number moment : ℕ) (ruling : Ruling) (who : Caller) (d : CommandEffect)
    → who ≢ Officer → d.outcome ≡ given_is.Refused NotAllowed → d.changes ≡ None
    → IsDecided s (caller_step s moment who (rule id number ruling)) d
other_ruled s id number moment ruling Officer d apart is none = absurd (apart refl)
other_ruled s id number moment ruling (by_key by) d apart is none =
    none_decided s (caller_step s moment (by_key by) (rule id number ruling)) d (given_is.Refused NotAllowed) is none
    refl refl

pub unknown_ruled : (s : ClubState) (id number moment : ℕ) (ruling : Ruling) (d : CommandEffect)
    → place s.games id ≡ None → d.outcome ≡ given_is.Refused UnknownGame → d.changes ≡ None
    → IsDecided s (caller_step s moment Officer (rule id number ruling)) d
unknown_ruled s id number moment ruling d absent is none =
    none_decided s (caller_step s moment Officer (rule id number ruling)) d (given_is.Refused UnknownGame) is none
    (sym (ap (λ o. answered (step_ruling both_games s moment id number ruling o)) absent)) refl
