-- A step on a game leaves a legal game legal.
use Rattle.std.proofs.Common.{◌≡◌, ℕ, zero, suc, ◌+◌, ◌-◌, ◌<◌, ◌≤◌, List, [], ◌∷◌, ◌++◌, length, map, Option, Some}
use Rattle.std.proofs.Common.{None, Result, Ok, Err, Bool, true, false, refl, sym, ap, ◌∙◌, arith, add-one}
use Rattle.std.proofs.Common.{length-append, ◌⊎◌, inl, inr}
use Rattle.std.specs.Prelude.{if◌then◌else◌, is_some, IsSome, IfSome, ◌↔◌, slice_get}
use Rattle.std.proofs.Math.Nat.{eq-or-lt_of_le}
use Rattle.std.proofs.lemmas.Bool.{ltb-false}
use Rattle.std.proofs.lemmas.List.{map-append, length-map}
use Rattle.squares.specs.declared.sides.Side.{Side}
use Rattle.squares.specs.declared.sides.Side.TheVariants.{First}
use Rattle.squares.specs.declared.sides.Score.{Score}
use Rattle.squares.specs.Sides.{other}
use Rattle.club_rules.specs.declared.refusals.MoveRefusal.{MoveRefusal}
use Rattle.club_rules.specs.GameRules.{GameRules, ply_limit}
use Rattle.club_rules.specs.Line.{IsLegalLine}
use Rattle.club_requests.specs.declared.outside_end.OutsideEnd.{OutsideEnd}
use Rattle.club_requests.specs.declared.outside_end.OutsideEnd.TheVariants.{Time, Recorded}
use Rattle.club_core.specs.declared.rows.Offer.{Offer}
use Rattle.club_requests.specs.declared.refusals.Refusal.{Refusal}
use Rattle.club_core.specs.Events.{Terms}
use Rattle.club_requests.specs.Outcome.{first_refusal}
use Rattle.club_core.specs.Rulings.{GivenRuling, verdict_of, first_verdict}
use Rattle.club_core.specs.Game.{Entry, Game, Clocks, turns, after_rulings, spend, spend_all, moves_of, clocks_of}
use Rattle.club_core.specs.Game.{last_position, rule_end, end_of, turn_of, left_of, side_after}
use Rattle.club_core.specs.Legal.{IsTimely, IsOffer, IsLegalGame, MayEndBy, IsVerdict, AreLegalRulings, moment_or}
use Rattle.club_core.specs.Legal.{moment_at}
use Rattle.club_core.specs.Step.{played, offered, ended, checked, checked_as, move_tests, move_refusal}
use Rattle.club_rules.proofs.Proved.{IsPlayedLine-append}
use Rattle.club_core.proofs.GrantLemmas.{AreFrom, are_from-fewer, after-more, none-verdict, no-first_verdict}
use Rattle.club_core.proofs.Played.{moves_of-played, turn-of-game, no-rule-end, verdict-alone, outside-alone}

-- the laws that the rules of a game keep
pub record AreRules {P M E T : Type 0} (laws : GameRules P M E T) : Type 0 where
  pub first_starts : laws.turn laws.start ≡ First
  pub turn_passes : (p : P) (m : M) → laws.check p m ≡ Ok tt → laws.turn (laws.play p m) ≡ other (laws.turn p)
  pub same_is : (a b : M) → (laws.same a b ≡ true) ↔ (a ≡ b)
  pub ends_at_limit : (ms : List M) → IsLegalLine laws laws.start ms → length ms ≡ ply_limit
      → IsSome (laws.judge laws.start ms)

pub are_rules : {P M E T : Type 0} (laws : GameRules P M E T) → laws.turn laws.start ≡ First
    → ((p : P) (m : M) → laws.check p m ≡ Ok tt → laws.turn (laws.play p m) ≡ other (laws.turn p))
    → ((a b : M) → (laws.same a b ≡ true) ↔ (a ≡ b))
    → ((ms : List M) → IsLegalLine laws laws.start ms → length ms ≡ ply_limit → IsSome (laws.judge laws.start ms))
    → AreRules laws
are_rules laws starts passes same ends = record {
  first_starts = starts;
  turn_passes = passes;
  same_is = same;
  ends_at_limit = ends;
}

-- one more move in time
pub is_timely-append : (increment : ℕ) (rs : List GivenRuling) (plies n : ℕ) (side : Side) (ms : List ℕ) (m : ℕ)
    (c : Clocks) → n ≡ plies + length ms → IsTimely increment rs plies side ms c
    → (after_rulings rs n (spend_all increment rs plies side ms c)).since ≤ m
    → m - (after_rulings rs n (spend_all increment rs plies side ms c)).since
    ≤ left_of (turns (length ms) side) (after_rulings rs n (spend_all increment rs plies side ms c))
    → IsTimely increment rs plies side (ms ++ m ∷ []) c
is_timely-append increment rs plies n side [] m c is timely later in_time =
    let e : n ≡ plies = omega (arith, is) in
    (rw e at later, rw e at in_time, tt)
is_timely-append increment rs plies n side (x ∷ xs) m c is timely later in_time = (
  timely.0,
  timely.1,
  is_timely-append increment rs (suc plies) n (other side) xs m (spend increment side x (after_rulings rs plies c))
      (omega (arith, is, add-one plies, add-one (length xs))) timely.2 later in_time,
)

-- rulings that came after these moves leave them timely
pub is_timely-more : (increment : ℕ) (rs more : List GivenRuling) (plies n : ℕ) (side : Side) (ms : List ℕ)
    (c : Clocks) → n ≡ plies + length ms → AreFrom more n → IsTimely increment rs plies side ms c
    → IsTimely increment (rs ++ more) plies side ms c
is_timely-more increment rs more plies n side [] c is from timely = tt
is_timely-more increment rs more plies n side (m ∷ ms) c is from timely =
    rw (after-more rs more plies c
    (are_from-fewer more (suc plies) n (omega (arith, is, add-one plies, add-one (length ms))) from)) (
      timely.0,
      timely.1,
      is_timely-more increment rs more (suc plies) n (other side) ms
          (spend increment side m (after_rulings rs plies c))
          (omega (arith, is, add-one plies, add-one (length ms))) from timely.2,
    )

-- no test holds
abbrev pub NoneHolds : List (Bool × Refusal) → Type 0
NoneHolds [] = Unit {0}
NoneHolds (test ∷ tests) = (test.0 ≡ false) × NoneHolds tests

none-next : (b : Bool) (x : Refusal) (rest : Option Refusal) → (if b then Some x else rest) ≡ None → (b ≡ false)
    × (rest ≡ None)
none-next true x rest is = cc
none-next false x rest is = (refl, is)

-- where nothing is refused, no test holds
pub none-holds : (tests : List (Bool × Refusal)) → first_refusal tests ≡ None → NoneHolds tests
none-holds [] none = tt
none-holds (test ∷ tests) none =
    let both = none-next test.0 test.1 (first_refusal tests) none in
    (both.0, none-holds tests both.1)

pub not-some : {A : Type 0} (o : Option A) → is_some o ≡ false → o ≡ None
not-some None is = refl
not-some (Some x) is = cc

module _ {P M E T : Type 0} (laws : GameRules P M E T) (terms : Terms) (game : Game M) (moment : ℕ) where
  -- where a new move is allowed, the game is running
  pub allowed-running : (side : Side) (ply : ℕ) (text : List ℕ)
      → move_refusal laws terms game moment side ply text ≡ None → end_of laws game ≡ None
  allowed-running side ply text allowed =
      not-some (end_of laws game) (none-holds (move_tests laws terms game moment side ply text) allowed).0

  -- and the side to move has not used all its seconds
  pub allowed-in_time : (side : Side) (ply : ℕ) (text : List ℕ)
      → move_refusal laws terms game moment side ply text ≡ None
      → moment - (clocks_of game terms).since ≤ left_of (turn_of laws game) (clocks_of game terms)
  allowed-in_time side ply text allowed =
      ltb-false _ _ (none-holds (move_tests laws terms game moment side ply text) allowed).1.1.1.1.0

  pub checked-legal : (p : P) (read : Result M MoveRefusal) (m : M) → checked laws p read ≡ Ok m
      → laws.check p m ≡ Ok tt
  checked-legal p (Err refusal) m is = cc
  checked-legal p (Ok n) m is = check-as p n m (laws.check p n) refl is
    where
      check-as : (p : P) (n m : M) (c : Result (Unit {0}) MoveRefusal) → laws.check p n ≡ c → checked_as laws n c ≡ Ok m
          → laws.check p m ≡ Ok tt
      check-as p n m (Err refusal) at is = cc
      check-as p n m (Ok u) at is =
          let e : n ≡ m = cc in
          rw (← e) at

-- a game without rulings
pub no-rulings : {P M E T : Type 0} (laws : GameRules P M E T) (terms : Terms) (game : Game M) → game.rulings ≡ []
    → AreLegalRulings laws terms game
no-rulings laws terms game none =
    let nothing : (n : ℕ) (r : GivenRuling) → slice_get game.rulings n ≡ Some r → ⊥ = λ n r at.
    let empty : slice_get [] n ≡ Some r = rw none at at in
    absurd cc in
    let count : length game.rulings ≡ 0 = ap length none in
    record {
      count = omega (arith, count);
      each = λ n r at. absurd (nothing n r at);
      in_order = λ n r next at at_next. absurd (nothing n r at);
      verdict_alone = λ some. let clash : false ≡ true = rw none at some in absurd cc;
      before_rule_end = λ ended n r at. absurd (nothing n r at);
      recorded = λ score is n r at. absurd (nothing n r at);
      lost_by_time = λ is. rw none tt;
    }

-- a list with one more element is the same before it
kept-get : {A : Type 0} (xs : List A) (x : A) (n : ℕ) → n < length xs → slice_get (xs ++ x ∷ []) n ≡ slice_get xs n
kept-get [] x n within = absurd (omega (arith, within))
kept-get (y ∷ ys) x zero within = refl
kept-get (y ∷ ys) x (suc n) within = kept-get ys x n (omega (arith, within, add-one n, add-one (length ys)))

-- the timestamp of a ply is the same with one more entry
moment-kept : {M : Type 0} (start : ℕ) (entries : List (Entry M)) (e : Entry M) (plies : ℕ) → plies ≤ length entries
    → moment_at start (entries ++ e ∷ []) plies ≡ moment_at start entries plies
moment-kept start entries e zero within = refl
moment-kept start entries e (suc n) within =
    ap (moment_or start) (kept-get entries e n (omega (arith, within, add-one n)))

-- the next entry is the same, or the new one
before-kept : {M : Type 0} (entries : List (Entry M)) (e : Entry M) (plies moment : ℕ) → plies ≤ length entries
    → IfSome (slice_get entries plies) (λ x. moment ≤ x.moment) → moment ≤ e.moment
    → IfSome (slice_get (entries ++ e ∷ []) plies) (λ x. moment ≤ x.moment)
before-kept [] e zero moment within is new = new
before-kept [] e (suc n) moment within is new = absurd (omega (arith, within, add-one n))
before-kept (x ∷ xs) e zero moment within is new = is
before-kept (x ∷ xs) e (suc n) moment within is new =
    before-kept xs e n moment (omega (arith, within, add-one n, add-one (length xs))) is new

module _ {P M E T : Type 0} (laws : GameRules P M E T) (are_rules : AreRules laws) (terms : Terms) (game : Game M)
    (legal : IsLegalGame laws terms game) where
  room : rule_end laws game ≡ None → length game.entries < ply_limit
  room running = below (eq-or-lt_of_le legal.plies)
    where
      below : (length game.entries ≡ ply_limit) ⊎ (length game.entries < ply_limit) → length game.entries < ply_limit
      below (inr less) = less
      below (inl all) =
          let count : length (map (λ e. e.made) game.entries) ≡ length game.entries = simp length-map in
          let ended : IsSome (rule_end laws game) =
          are_rules.ends_at_limit (map (λ e. e.made) game.entries) legal.line.legal (count ∙ all) in
          let none : false ≡ true = rw running at ended in
          absurd cc

  -- where nothing ended a game from outside, it needs nothing
  none-outside : (new : Game M) (end : Option OutsideEnd) → end ≡ None → IfSome end (λ o. MayEndBy laws terms new o)
  none-outside new None none = tt
  none-outside new (Some o) none = absurd cc

  -- rulings that were given until then stay legal with one more move in a running game
  rulings-played : (m : M) (moment : ℕ) → end_of laws game ≡ None
      → ((n : ℕ) (r : GivenRuling) → slice_get game.rulings n ≡ Some r → r.moment ≤ moment)
      → AreLegalRulings laws terms (played game m moment)
  rulings-played m moment running until =
      let e : Entry M = record { made = m; moment = moment } in
      let old = legal.rulings in
      let none : verdict_of game.rulings ≡ None = verdict-alone (rule_end laws game) _ game.outside running in
      let alone : game.outside ≡ None = outside-alone (rule_end laws game) _ _ running in
      let count : length (game.entries ++ e ∷ []) ≡ length game.entries + 1 = simp length-append in
      record {
        count = old.count;
        each = λ n r at.
            let is = old.each n r at in
            let within = is.plies in
            record {
              plies = omega (arith, count, within);
              after_move = rw (moment-kept game.start game.entries e r.plies within) is.after_move;
              before_move = before-kept game.entries e r.plies r.moment within is.before_move (until n r at);
              time = is.time;
              last = λ verdict.
                  let clash : false ≡ true = rw (none-verdict game.rulings none n r at) at verdict in
                  absurd cc;
            };
        in_order = old.in_order;
        verdict_alone = λ some. let clash : false ≡ true = rw none at some in absurd cc;
        before_rule_end = λ ended n r at. let within = (old.each n r at).plies in omega (arith, count, within);
        recorded = λ score is. let clash : None ≡ Some (Recorded score) = sym alone ∙ is in absurd cc;
        lost_by_time = λ is. let clash : None ≡ Some Time = sym alone ∙ is in absurd cc;
      }

  -- they stay legal with an offer or an end from outside
  rulings-kept : (offer : Option Offer) (outside : Option OutsideEnd)
      → ((score : Score) → outside ≡ Some (Recorded score) → (n : ℕ) (r : GivenRuling)
      → slice_get game.rulings n ≡ Some r → IsVerdict r)
      → (outside ≡ Some Time → IfSome (first_verdict game.rulings)
      (λ r. (clocks_of game terms).since + left_of (turn_of laws game) (clocks_of game terms) < r.moment))
      → AreLegalRulings laws terms (record game { offer = offer; outside = outside })
  rulings-kept offer outside recorded lost =
      let old = legal.rulings in
      record {
        count = old.count;
        each = λ n r at.
            let is = old.each n r at in
            record {
              plies = is.plies;
              after_move = is.after_move;
              before_move = is.before_move;
              time = is.time;
              last = is.last;
            };
        in_order = old.in_order;
        verdict_alone = old.verdict_alone;
        before_rule_end = old.before_rule_end;
        recorded = recorded;
        lost_by_time = lost;
      }

  -- a legal game is legal with one more legal move in time
  pub legal-played : (m : M) (moment : ℕ) → end_of laws game ≡ None
      → ((n : ℕ) (r : GivenRuling) → slice_get game.rulings n ≡ Some r → r.moment ≤ moment)
      → (clocks_of game terms).since ≤ moment
      → moment - (clocks_of game terms).since ≤ left_of (turn_of laws game) (clocks_of game terms)
      → laws.check (last_position laws game) m ≡ Ok tt → IsLegalGame laws terms (played game m moment)
  legal-played m moment running until later in_time ok =
      let no_rule : rule_end laws game ≡ None = no-rule-end (rule_end laws game) _ game.outside running in
      let no_outside : game.outside ≡ None = outside-alone (rule_end laws game) _ _ running in
      let count : length (game.entries ++ record { made = m; moment = moment } ∷ []) ≡ length game.entries + 1 =
      simp length-append in
      let below : length game.entries < ply_limit = room no_rule in
      let side : turn_of laws game ≡ side_after (length game.entries) =
      turn-of-game laws are_rules.turn_passes are_rules.first_starts game legal.line.legal in
      let moments : length (map (λ e. e.moment) game.entries) ≡ length game.entries = simp length-map in
      record {
        line = rw (moves_of-played game m moment)
            (IsPlayedLine-append laws laws.start (moves_of game) m legal.line no_rule ok);
        plies = omega (arith, count, below);
        timely =
            rw (map-append (λ e. e.moment) game.entries (record { made = m; moment = moment } ∷ []))
            (is_timely-append terms.increment game.rulings 0 (length game.entries) First
            (map (λ e. e.moment) game.entries) moment _ (omega (arith, moments)) legal.timely later
            (rw (moments, ← side) in_time));
        outside_alone = λ some. let none : false ≡ true = rw no_outside at some in absurd cc;
        offer = tt;
        outside = none-outside (played game m moment) game.outside no_outside;
        players = legal.players;
        rulings = rulings-played m moment running until;
      }

  -- in a running game the rules gave no end
  pub running-rule : end_of laws game ≡ None → rule_end laws game ≡ None
  running-rule running = no-rule-end (rule_end laws game) _ game.outside running

  -- and nothing ended it from outside
  pub running-alone : end_of laws game ≡ None → game.outside ≡ None
  running-alone running = outside-alone (rule_end laws game) _ _ running

  -- a legal game is legal with an offer of its next ply
  pub legal-offered : (side : Side) (ply : ℕ) → end_of laws game ≡ None → laws.has_draw_offers ≡ true
      → ply ≡ length game.entries + 1 → IsLegalGame laws terms (offered game (record { side = side; ply = ply }))
  legal-offered side ply running draws next =
      let no_outside : game.outside ≡ None = running-alone running in
      record {
        line = legal.line;
        plies = legal.plies;
        timely = legal.timely;
        outside_alone = legal.outside_alone;
        offer = record { allowed = draws; next_ply = next; no_rule_end = running-rule running };
        outside = none-outside (offered game (record { side = side; ply = ply })) game.outside no_outside;
        players = legal.players;
        rulings = rulings-kept (Some (record { side = side; ply = ply })) game.outside legal.rulings.recorded
            legal.rulings.lost_by_time;
      }

  offer-stays : (end : OutsideEnd) (offer : Option Offer) → IfSome offer (λ o. IsOffer laws game o)
      → IfSome offer (λ o. IsOffer laws (ended game end) o)
  offer-stays end None is = tt
  offer-stays end (Some offer) is =
      record { allowed = is.allowed; next_ply = is.next_ply; no_rule_end = is.no_rule_end }

  -- a running legal game is legal with an end from outside, but that of a record beside no ruling
  pub legal-ended : (end : OutsideEnd) → end_of laws game ≡ None → MayEndBy laws terms (ended game end) end
      → ((score : Score) → end ≡ Recorded score → game.rulings ≡ []) → IsLegalGame laws terms (ended game end)
  legal-ended end running may no_ruling =
      let none : verdict_of game.rulings ≡ None = verdict-alone (rule_end laws game) _ game.outside running in
      record {
        line = legal.line;
        plies = legal.plies;
        timely = legal.timely;
        outside_alone = λ some. running-rule running;
        offer = offer-stays end game.offer legal.offer;
        outside = may;
        players = legal.players;
        rulings = rulings-kept game.offer (Some end)
            (λ score is n r at.
            let e : end ≡ Recorded score = cc in
            let nothing : slice_get [] n ≡ Some r = rw (no_ruling score e) at at in
            absurd cc) (λ is. rw (no-first_verdict game.rulings none) tt);
      }
