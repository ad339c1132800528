-- When the row of a game may stand: where the game is legal.
use Rattle.std.proofs.Common.{◌≡◌, ℕ, zero, suc, ◌≤◌, List, [], ◌∷◌, length, map, Option, Some, None, Bool, true, false}
use Rattle.std.proofs.Common.{◌&&◌, not, nat_eq, refl, ap, sym, ◌∙◌, arith}
use Rattle.std.specs.Prelude.{slice_get, is_some, IsSome, IfSome, IsTrue}
use Rattle.std.proofs.lemmas.Bool.{and_parts, eq-eqb, not-true, true≢false}
use Rattle.std.proofs.lemmas.Bool.Decides.{nat_tests}
use Rattle.std.proofs.lemmas.Option.{same_Some}
use Rattle.squares.specs.declared.sides.Side.{Side}
use Rattle.squares.specs.declared.sides.Side.TheVariants.{First}
use Rattle.squares.specs.Sides.{other}
use Rattle.club_rules.specs.GameRules.{GameRules}
use Rattle.club_core.specs.declared.rows.GameRow.{GameRow}
use Rattle.club_core.specs.declared.rows.Offer.{Offer}
use Rattle.club_requests.specs.Limits.{is_name}
use Rattle.club_requests.specs.declared.outside_end.OutsideEnd.{OutsideEnd}
use Rattle.club_requests.specs.declared.outside_end.OutsideEnd.TheVariants.{Recorded}
use Rattle.club_core.specs.Events.{Terms}
use Rattle.club_core.specs.Game.{Entry, Game, Clocks, spend, spend_all, after_rulings, clocks_of, clocks_then}
use Rattle.club_core.specs.Game.{last_position, moments_of, opening_clocks, rule_end}
use Rattle.club_core.specs.Legal.{AreLegalRulings, IsTimely, IsOffer, IsLegalGame, MayEndBy}
use Rattle.club_core.specs.Rulings.{GivenRuling, verdict_of}
use Rattle.club_core.specs.View.{IsRowOf}
use Rattle.club_core.specs.internal.View.{rule_in}
use Rattle.club_core.proofs.Proved.{rule_in-end_with, since-after}
use Rattle.store_tables.specs.declared.rows.MoveRow.{MoveRow}
use Rattle.club_rows.specs.Replay.{IsPlayedAs}
use Rattle.club_rows.proofs.ColumnLemmas.{spend-since}
use Rattle.club_rows.specs.internal.MayStand.{may_have_key, may_have_offer, may_have_end, may_stand}

pub is_some-none : {A : Type 0} (o : Option A) → is_some o ≡ false → o ≡ None
is_some-none o is = grind arith

-- ---- the moments of a game that was recorded

pub since-rises : (increment : ℕ) (rs : List GivenRuling) (plies : ℕ) (side : Side) (ms : List ℕ) (c : Clocks)
    → IsTimely increment rs plies side ms c → c.since ≤ (spend_all increment rs plies side ms c).since
since-rises increment rs plies side [] c timely = omega arith
since-rises increment rs plies side (m ∷ ms) c timely =
    let now = after_rulings rs plies c in
    let rest = since-rises increment rs (suc plies) (other side) ms (spend increment side m now) timely.2 in
    omega (arith, timely.0, rest, spend-since increment side m now, since-after rs plies c)

module _ {M : Type 0} (increment : ℕ) (rs : List GivenRuling) where
  all-at-once : (plies : ℕ) (side : Side) (es : List (Entry M)) (c : Clocks)
      → IsTimely increment rs plies side (map (λ e. e.moment) es) c
      → (spend_all increment rs plies side (map (λ e. e.moment) es) c).since ≤ c.since → (n : ℕ) (e : Entry M)
      → slice_get es n ≡ Some e → e.moment ≡ c.since
  all-at-once plies side [] c timely most n e at = cc
  all-at-once plies side (x ∷ es) c timely most zero e at =
      let now = after_rulings rs plies c in
      let is : x.moment ≡ e.moment = ap (λ y. y.moment) (same_Some x e at) in
      let rest = since-rises increment rs (suc plies) (other side) (map (λ y. y.moment) es)
      (spend increment side x.moment now) timely.2 in
      let here = spend-since increment side x.moment now in
      omega (arith, timely.0, rest, here, most, is, since-after rs plies c)
  all-at-once plies side (x ∷ es) c timely most (suc n) e at =
      let now = after_rulings rs plies c in
      let rest = since-rises increment rs (suc plies) (other side) (map (λ y. y.moment) es)
      (spend increment side x.moment now) timely.2 in
      let here = spend-since increment side x.moment now in
      let before = since-after rs plies c in
      let is = all-at-once (suc plies) (other side) es (spend increment side x.moment now) timely.2
      (omega (arith, here, most, timely.0, before)) n e at in
      omega (arith, is, timely.0, rest, here, most, before)

  stays-at-once : (plies : ℕ) (side : Side) (es : List (Entry M)) (c : Clocks) (start : ℕ) → c.since ≡ start
      → ((n : ℕ) (e : Entry M) → slice_get es n ≡ Some e → e.moment ≡ start)
      → (spend_all increment rs plies side (map (λ e. e.moment) es) c).since ≡ start
  stays-at-once plies side [] c start is each = is
  stays-at-once plies side (e ∷ es) c start is each =
      stays-at-once (suc plies) (other side) es (spend increment side e.moment (after_rulings rs plies c)) start
      (spend-since increment side e.moment (after_rulings rs plies c) ∙ each zero e refl) (λ n x at. each (suc n) x at)

module _ {P M E T : Type 0} (rules : GameRules P M E T) (terms : Terms) (game : Game M) where
  -- the clock runs since the last move, whatever was granted since
  since-then : (clocks_of game terms).since ≡ (clocks_then game terms).since
  since-then = since-after game.rulings (length game.entries) (clocks_then game terms)

  -- ---- whether the row may stand

  -- the event has declarations, and the side to move may make one
  abbrev pub declares : Bool
  declares = terms.declares && rules.can_declare (last_position rules game)

  -- the parts of the test, by the game
  abbrev pub stands : Bool
  stands =
      may_have_key game.key
      && not (nat_eq game.first game.second)
      && may_have_offer rules.has_draw_offers (length game.entries) (is_some (rule_end rules game)) game.offer
      && may_have_end (is_some game.key) (is_some game.offer) declares game.start (clocks_of game terms).since
      game.outside

  pub row-stands : (row : GameRow E) (may : Bool) → IsRowOf rules terms game row → may ≡ declares
      → may_stand rules.has_draw_offers may row ≡ stands
  row-stands row may is same =
      let ended : rule_in row.end ≡ rule_end rules game =
      ap rule_in is.end ∙ rule_in-end_with (rule_end rules game) (verdict_of game.rulings) game.outside in
      grind (arith, ended)

  offer-legal : (o : Option Offer) → may_have_offer rules.has_draw_offers (length game.entries)
      (is_some (rule_end rules game)) o ≡ true → IfSome o (λ offer. IsOffer rules game offer)
  offer-legal o is = grind (arith, nat_tests)

  key-named : (key : Option (List ℕ)) → may_have_key key ≡ true → IfSome key (λ k. IsTrue (is_name k))
  key-named key is = grind arith

  -- an end outside the rules that the row may have is one that the game may have, and back
  end-legal : (end : OutsideEnd)
      → IsTimely terms.increment game.rulings 0 First (moments_of game) (opening_clocks game terms)
      → may_have_end (is_some game.key) (is_some game.offer) declares game.start (clocks_of game terms).since (Some end)
      ≡ true → MayEndBy rules terms game end
  end-legal (Recorded score) timely test =
      let at_once = all-at-once terms.increment game.rulings 0 First game.entries (opening_clocks game terms) timely in
      grind (arith, nat_tests, test, at_once, since-then)
  end-legal _ timely test = grind (arith, test)

  end-stands : (end : OutsideEnd) → MayEndBy rules terms game end
      → may_have_end (is_some game.key) (is_some game.offer) declares game.start (clocks_of game terms).since (Some end)
      ≡ true
  end-stands (Recorded score) may =
      let at_once = stays-at-once terms.increment game.rulings 0 First game.entries (opening_clocks game terms)
      game.start refl in
      grind (arith, nat_tests, may, at_once, since-then)
  end-stands _ may = grind (arith, may)

  outside-legal : (outside : Option OutsideEnd)
      → IsTimely terms.increment game.rulings 0 First (moments_of game) (opening_clocks game terms)
      → may_have_end (is_some game.key) (is_some game.offer) declares game.start (clocks_of game terms).since outside
      ≡ true → IfSome outside (λ end. MayEndBy rules terms game end)
  outside-legal None timely test = tt
  outside-legal (Some end) timely test = end-legal end timely test

  outside-stands : (outside : Option OutsideEnd) → IfSome outside (λ end. MayEndBy rules terms game end)
      → may_have_end (is_some game.key) (is_some game.offer) declares game.start (clocks_of game terms).since outside
      ≡ true
  outside-stands None may = refl
  outside-stands (Some end) may = end-stands end may

  -- a game that was replayed, whose rulings are legal and whose row may stand is legal
  pub stands-legal : {id from : ℕ} {rows : List MoveRow} → IsPlayedAs rules terms id from rows game
      → AreLegalRulings rules terms game → (IsSome game.outside → rule_end rules game ≡ None) → stands ≡ true
      → IsLegalGame rules terms game × IfSome game.key (λ k. IsTrue (is_name k))
  stands-legal played rulings alone stand =
      let parts = and_parts _ (may_have_end (is_some game.key) (is_some game.offer) declares game.start
      (clocks_of game terms).since game.outside) stand in
      let front = and_parts _ _ parts.0 in
      let head = and_parts _ _ front.0 in (
        record {
          line = played.line;
          plies = played.plies;
          timely = played.timely;
          outside_alone = alone;
          offer = offer-legal game.offer front.1;
          outside = outside-legal game.outside played.timely parts.1;
          players = λ same. true≢false (sym (eq-eqb game.first game.second same) ∙ not-true _ head.1);
          rulings = rulings;
        },
        key-named game.key head.0,
      )

  -- the row of a legal game may stand
  pub legal-stands : IsLegalGame rules terms game → IfSome game.key (λ k. IsTrue (is_name k)) → stands ≡ true
  legal-stands legal named =
      let may = outside-stands game.outside legal.outside in
      grind (arith, nat_tests, may)
