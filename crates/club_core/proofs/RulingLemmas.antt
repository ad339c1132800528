-- What follows from a game that one more ruling was given on.
use Rattle.std.proofs.Common.{◌≡◌, ℕ, ◌≤◌, List, [], ◌∷◌, length, map, Option, Some, None, Bool, true, false, not}
use Rattle.std.proofs.Common.{◌&&◌, ◌||◌, refl, ap, sym, ◌∙◌, arith, string_bytes}
use Rattle.std.specs.Prelude.{is_some, slice_get}
use Rattle.std.specs.Option.{option_map}
use Rattle.std.proofs.lemmas.Bool.Decides.{nat_tests}
use Rattle.std.proofs.lemmas.List.{length-map}
use Rattle.squares.specs.declared.sides.Side.{Side}
use Rattle.squares.specs.declared.sides.Side.TheVariants.{First}
use Rattle.squares.specs.declared.sides.Score.{Score}
use Rattle.club_rules.specs.GameRules.{GameRules}
use Rattle.club_requests.specs.declared.answers.Answer.TheVariants.{RulingGiven}
use Rattle.club_requests.specs.declared.outside_end.OutsideEnd.{OutsideEnd}
use Rattle.club_requests.specs.declared.refusals.Refusal.{Refusal}
use Rattle.club_requests.specs.declared.requests.Caller.{Caller}
use Rattle.club_requests.specs.declared.requests.Caller.TheVariants.{Officer}
use Rattle.club_requests.specs.declared.rulings.Ruling.{Ruling}
use Rattle.club_requests.specs.declared.rulings.Ruling.TheVariants.{Grant, Award, Void}
use Rattle.club_requests.specs.declared.rulings.Verdict as given_verdict
use Rattle.club_requests.specs.Limits.{longest_grant, is_grant_time}
use Rattle.club_requests.specs.Outcome.{accepted, by_officer, refused, repeated, ruling_given}
use Rattle.club_requests.specs.Rulings.{has_grant_time, is_grant, verdict_in, verdict_score}
use Rattle.club_core.specs.declared.decided.Decision.TheVariants as decision
use Rattle.club_core.specs.declared.rows.GameEnd.{GameEnd}
use Rattle.club_core.specs.declared.rows.GameEnd.TheVariants.{Rule, Verdict, Outside}
use Rattle.club_core.specs.declared.rows.GameRow.{GameRow}
use Rattle.club_core.specs.declared.rows.GameView.{GameView}
use Rattle.club_core.specs.declared.rows.StoredRulings.{StoredRulings}
use Rattle.club_core.specs.Events.{Terms}
use Rattle.club_core.specs.Rulings.{GivenRuling, later_verdict, verdict_of, ruling_under, is_given}
use Rattle.club_core.specs.Game.{Clocks, Game, after_ruling, clocks_of, moves_of, opening_clocks, rule_end, end_of}
use Rattle.club_core.specs.Game.{end_with, score_with, turn_of}
use Rattle.club_core.specs.Step.{ruled, ruling_refusal, ruling_step}
use Rattle.club_core.specs.View.{IsRowOf, Shows, clocks_in}
use Rattle.club_core.specs.internal.Rulings.{is_late_for, is_next_number, stored_tests, stored_refusal}
use Rattle.club_core.specs.internal.View.{IsDecision, IsMade, ShowsRulings, rule_in}
use Rattle.club_core.proofs.GrantLemmas.{after-now, spend_all-more, verdict_of-append}
use Rattle.club_core.proofs.KeyLemmas.{get-past}
use Rattle.club_core.proofs.Legals.{none-holds}
use Rattle.club_core.proofs.Played.{rule_in-end_with}

module _ {M : Type 0} (game : Game M) (ruling : Ruling) (moment : ℕ) where
  -- the clocks of a game with one more ruling
  pub clocks-ruled : (terms : Terms) → clocks_of (ruled game ruling moment) terms
      ≡ after_ruling ruling (clocks_of game terms)
  clocks-ruled terms =
      let r : GivenRuling = record { ruling = ruling; moment = moment; plies = length game.entries } in
      let moments = map (λ e. e.moment) game.entries in
      let count : length moments ≡ length game.entries = simp length-map in
      let itself : length game.entries ≤ length game.entries = omega arith in
      rw (spend_all-more terms.increment game.rulings (r ∷ []) 0 (length game.entries) First moments
      (opening_clocks game terms) (omega (arith, count)) (itself, tt))
      (after-now game.rulings r (length game.entries) _ refl)

pub verdict-leaves : (ruling : Ruling) (v : given_verdict.Verdict) → verdict_in ruling ≡ Some v → (c : Clocks)
    → after_ruling ruling c ≡ c
verdict-leaves (Grant side seconds) v gives c = cc
verdict-leaves (Award score) v gives c = refl
verdict-leaves Void v gives c = refl

-- its end
pub end-ruled : {P M E T : Type 0} (laws : GameRules P M E T) (game : Game M) (ruling : Ruling) (moment : ℕ)
    → end_of laws (ruled game ruling moment)
    ≡ end_with (rule_end laws game) (later_verdict (verdict_of game.rulings) (verdict_in ruling)) game.outside
end-ruled laws game ruling moment =
    ap (λ v. end_with (rule_end laws game) v game.outside)
    (verdict_of-append game.rulings
    (record { ruling = ruling; moment = moment; plies = length game.entries }))

module _ {P M E T : Type 0} (laws : GameRules P M E T) (terms : Terms) (game : Game M) (moment : ℕ) (row : GameRow E)
    (is : IsRowOf laws terms game row) where
  -- the row of a game in which time was granted
  pub row-granted : (side : Side) (seconds : ℕ) (new : GameRow E)
      → option_map (λ k. string_bytes k) new.key ≡ option_map (λ k. string_bytes k) row.key
      → string_bytes new.position ≡ string_bytes row.position
      → new ≡ record row {
        key = new.key;
        left_first = new.left_first;
        left_second = new.left_second;
        position = new.position;
      }
      → clocks_in new ≡ after_ruling (Grant side seconds) (clocks_in row)
      → IsRowOf laws terms (ruled game (Grant side seconds) moment) new
  row-granted side seconds new key position others clocks =
      let end : end_of laws (ruled game (Grant side seconds) moment) ≡ end_of laws game =
      end-ruled laws game (Grant side seconds) moment in
      record {
        key = key ∙ is.key;
        event = ap (λ r. r.event) others ∙ is.event;
        first = ap (λ r. r.first) others ∙ is.first;
        second = ap (λ r. r.second) others ∙ is.second;
        start = ap (λ r. r.start) others ∙ is.start;
        plies = ap (λ r. r.plies) others ∙ is.plies;
        clocks = clocks
            ∙ (ap (after_ruling (Grant side seconds)) is.clocks
            ∙ sym (clocks-ruled game (Grant side seconds) moment terms));
        track = ap (λ r. r.track) others ∙ is.track;
        offer = ap (λ r. r.offer) others ∙ is.offer;
        outside = ap (λ r. r.outside) others ∙ is.outside;
        end = ap (λ r. r.end) others ∙ (is.end ∙ sym end);
        result = ap (λ r. r.result) others
            ∙ (is.result ∙ sym (ap (λ e. score_with laws e (turn_of laws game)) end));
        position = position ∙ is.position;
      }

  -- the row of a game that a verdict ended
  pub row-judged : (ruling : Ruling) (v : given_verdict.Verdict) (copy : GameRow E) (score : Option Score)
      → verdict_in ruling ≡ Some v → score ≡ verdict_score v → rule_in row.end ≡ None
      → option_map (λ k. string_bytes k) copy.key ≡ option_map (λ k. string_bytes k) row.key
      → string_bytes copy.position ≡ string_bytes row.position
      → copy ≡ record row { key = copy.key; position = copy.position }
      → IsRowOf laws terms (ruled game ruling moment)
      (record copy { end = Some (Verdict v); result = score })
  row-judged ruling v copy score gives scores alone key position others =
      let no_rule : rule_end laws game ≡ None =
      sym (rule_in-end_with (rule_end laws game) (verdict_of game.rulings) game.outside)
      ∙ (ap rule_in (sym is.end) ∙ alone) in
      let end : end_of laws (ruled game ruling moment) ≡ Some (Verdict v) =
      end-ruled laws game ruling moment
      ∙ (ap (λ e. end_with e (later_verdict (verdict_of game.rulings) (verdict_in ruling)) game.outside) no_rule
      ∙ ap (λ g. end_with None (later_verdict (verdict_of game.rulings) g) game.outside) gives) in
      let stays : (c : Clocks) → after_ruling ruling c ≡ c = verdict-leaves ruling v gives in
      record {
        key = key ∙ is.key;
        event = ap (λ r. r.event) others ∙ is.event;
        first = ap (λ r. r.first) others ∙ is.first;
        second = ap (λ r. r.second) others ∙ is.second;
        start = ap (λ r. r.start) others ∙ is.start;
        plies = ap (λ r. r.plies) others ∙ is.plies;
        clocks = ap clocks_in others
            ∙ (is.clocks ∙ sym (clocks-ruled game ruling moment terms ∙ stays (clocks_of game terms)));
        track = ap (λ r. r.track) others ∙ is.track;
        offer = ap (λ r. r.offer) others ∙ is.offer;
        outside = ap (λ r. r.outside) others ∙ is.outside;
        end = sym end;
        result = scores ∙ sym (ap (λ e. score_with laws e (turn_of laws game)) end);
        position = position ∙ is.position;
      }

-- a ruling makes no move
pub is-decided : {P M E T : Type 0} (R : Type 0) (laws : GameRules P M E T) (terms : Terms) (game : Game M)
    (ruling : Ruling) (moment number : ℕ) (row : GameRow E) → IsRowOf laws terms (ruled game ruling moment) row
    → IsDecision {R = R} laws terms game (accepted (ruled game ruling moment) (ruling_given number))
    (decision.Accepted row None (RulingGiven number))
is-decided R laws terms game ruling moment number row is =
    let none : IsMade {R = R} laws (ruled game ruling moment) (slice_get (moves_of game) (length game.entries)) None =
    rw (get-past (λ e. e.made) game.entries (length game.entries) (omega arith)) tt in
    (none, λ times first stood. (is, none, refl))

-- ---- refusals

and-true : (b : Bool) → b ≡ (b && true)
and-true true = refl
and-true false = refl

and-false : (b : Bool) → false ≡ (b && false)
and-false true = refl
and-false false = refl

late-shown : {E : Type 0} (e : Option E) (v : Option given_verdict.Verdict) (o : Option OutsideEnd) (ruling : Ruling)
    → is_late_for (end_with e v o) ruling ≡ (is_some e || is_grant ruling && is_some (end_with e v o))
late-shown (Some e) v o ruling = refl
late-shown None (Some v) o ruling = and-true (is_grant ruling)
late-shown None None (Some o) ruling = and-true (is_grant ruling)
late-shown None None None ruling = and-false (is_grant ruling)

-- what the rows refuse is what the game refuses
pub refusal-shown : {R P M E T : Type 0} (laws : GameRules P M E T) (game : Game M) (view : GameView R P M E T)
    (stored : StoredRulings) (number : ℕ) (ruling : Ruling) → Shows laws game view → ShowsRulings game number stored
    → stored_refusal view.row.end stored number ruling ≡ ruling_refusal laws game number ruling
refusal-shown laws game view stored number ruling shows rulings =
    rw (
      shows.row.end,
      rulings.count,
      rulings.asked,
      late-shown (rule_end laws game) (verdict_of game.rulings) game.outside ruling,
    )
    refl

pub both-hold : (a b : Bool) → not (a && b) ≡ false → b ≡ true
both-hold true true is = refl
both-hold true false is = cc
both-hold false b is = cc

early-alone : {E : Type 0} (end : Option (GameEnd E)) (ruling : Ruling) → is_late_for end ruling ≡ false
    → rule_in end ≡ None
early-alone None ruling is = refl
early-alone (Some (Rule e)) ruling is = cc
early-alone (Some (Verdict v)) ruling is = refl
early-alone (Some (Outside o)) ruling is = refl

-- where nothing is refused, no rule ended the game, and the time is within its limits
module _ {E : Type 0} (end : Option (GameEnd E)) (stored : StoredRulings) (number : ℕ) (ruling : Ruling)
    (allowed : stored_refusal end stored number ruling ≡ None) where
  pub allowed-alone : rule_in end ≡ None
  allowed-alone = early-alone end ruling (none-holds (stored_tests end stored number ruling) allowed).0

  pub allowed-time : has_grant_time ruling ≡ true
  allowed-time =
      both-hold (is_next_number stored number) (has_grant_time ruling)
      (none-holds (stored_tests end stored number ruling) allowed).1.1.0

pub grant-bound : (seconds : ℕ) → is_grant_time seconds ≡ true → seconds ≤ longest_grant
grant-bound seconds is = grind (arith, nat_tests)

-- ---- the transition, by what was found

module _ {P M E T : Type 0} (laws : GameRules P M E T) (game : Game M) (stored : StoredRulings) (caller : Caller)
    (number moment : ℕ) (ruling : Ruling) (officer : caller ≡ Officer) (rulings : ShowsRulings game number stored) where
  pub step-repeated : is_given ruling stored.asked ≡ true
      → by_officer caller (ruling_step laws game number ruling moment) ≡ repeated (ruling_given number)
  step-repeated is =
      let given : is_given ruling (ruling_under game.rulings number) ≡ true = rw rulings.asked at is in
      rw (officer, given) refl

  pub step-refused : (refusal : Refusal) → is_given ruling stored.asked ≡ false
      → ruling_refusal laws game number ruling ≡ Some refusal
      → by_officer caller (ruling_step laws game number ruling moment) ≡ refused refusal
  step-refused refusal is refuses =
      let fresh : is_given ruling (ruling_under game.rulings number) ≡ false = rw rulings.asked at is in
      rw (officer, fresh, refuses) refl

  pub step-accepted : is_given ruling stored.asked ≡ false → ruling_refusal laws game number ruling ≡ None
      → by_officer caller (ruling_step laws game number ruling moment)
      ≡ accepted (ruled game ruling moment) (ruling_given number)
  step-accepted is allowed =
      let fresh : is_given ruling (ruling_under game.rulings number) ≡ false = rw rulings.asked at is in
      rw (officer, fresh, allowed) refl
