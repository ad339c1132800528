-- The rows of moves that are all made at one moment, one after another.
use Rattle.std.proofs.Common.{◌≡◌, ℕ, ◌+◌, ◌<◌, List, [], ◌∷◌, ◌++◌, length, map, take, get_or, Option, Some, Ok, refl}
use Rattle.std.proofs.Common.{sym, ap, subst, ◌∙◌, arith}
use Rattle.std.specs.Prelude.{slice_get}
use Rattle.std.proofs.lemmas.List.{take_more, length-map, length-take-le, map-append}
use Rattle.std.proofs.lemmas.Option.{slice_get-get_or}
use Rattle.sqlite_value.specs.declared.value.Value.TheVariants.{Text}
use Rattle.sqlite.specs.Order.{Row}
use Rattle.squares.specs.declared.sides.Side.{Side}
use Rattle.club_rules.specs.GameRules.{GameRules}
use Rattle.club_rules.specs.Line.{position_after, positions, IsLegalLine}
use Rattle.club_rules.proofs.Proved.{check-at, position_after-append}
use Rattle.club_core.specs.Events.{Terms}
use Rattle.club_core.specs.Game.{Entry, Game, moves_of, clocks_of, last_position, left_of, spend, turn_of}
use Rattle.club_core.specs.Imports.{imported}
use Rattle.club_core.specs.declared.seats.Pairing.{Pairing}
use Rattle.club_core.proofs.Proved.{AreRules, clocks-played, last-played}
use Rattle.club_laws.proofs.Proved.{made-again}
use Rattle.club_imports.specs.internal.OneMoment.{clocks_with}
use Rattle.club_rules.specs.Records.{Recorded}
use Rattle.club_rows.specs.internal.Replay.{game_from}
use Rattle.club_rows.specs.Seen.{rows_of_texts, seen_rows}
use Rattle.club_rows.specs.Tables.{number, entry_row, move_rows, with_entry}
use Rattle.club_rows.proofs.Proved.{IsLegalLine-take, rows-append, rows-alike}
use Rattle.club_changes.specs.internal.AtOnce.{entries_at_once, rows_at_once}

module _ {P M E T : Type 0} (rules : GameRules P M E T) (ms : List M) (i : ℕ) (m : M) (within : i < length ms)
    (is : m ≡ get_or ms i m) where
  at-place : slice_get ms i ≡ Some m
  at-place = slice_get-get_or ms i m within ∙ ap (λ x. Some x) (sym is)

  pub one-more : take (i + 1) ms ≡ take i ms ++ m ∷ []
  one-more = take_more ms i m within ∙ ap (λ x. take i ms ++ x ∷ []) (sym is)

  pub move-legal : IsLegalLine rules rules.start ms → (p : P) → p ≡ position_after rules rules.start (take i ms)
      → rules.check p m ≡ Ok tt
  move-legal line p stands = subst (λ q. rules.check q m ≡ Ok tt) (sym stands)
      (check-at rules rules.start ms i m line at-place)

  pub position-next : (p q : P) → p ≡ position_after rules rules.start (take i ms) → q ≡ rules.play p m
      → q ≡ position_after rules rules.start (take (i + 1) ms)
  position-next p q stands goes =
      goes ∙ ap (λ x. rules.play x m) stands ∙ sym (position_after-append rules rules.start (take i ms) m)
      ∙ ap (position_after rules rules.start) (sym one-more)

  module _ (are : AreRules rules) (line : IsLegalLine rules rules.start ms) (terms : Terms) (id moment : ℕ) where
    abbrev made : Entry M
    made = record { made = m; moment = moment }

    abbrev es : List (Entry M)
    es = entries_at_once moment (take i ms)

    abbrev game : Game M
    game = game_from [] moment es

    entries-more : entries_at_once moment (take (i + 1) ms) ≡ es ++ made ∷ []
    entries-more = ap (entries_at_once moment) one-more
        ∙ map-append (λ x. record { made = x; moment = moment }) (take i ms) (m ∷ [])

    moves-are : moves_of game ≡ take i ms
    moves-are = made-again moment (take i ms)

    line-so-far : IsLegalLine rules rules.start (moves_of game)
    line-so-far = subst (IsLegalLine rules rules.start) (sym moves-are) (IsLegalLine-take rules i rules.start ms line)

    position-is : (p : P) → p ≡ position_after rules rules.start (take i ms) → p ≡ last_position rules game
    position-is p stands = stands ∙ ap (position_after rules rules.start) (sym moves-are)

    -- with that move the clocks are those after it, and the rows have its own; then so it is for one ply more
    module _ (p q : P) (turn : Side) (a b c d left : ℕ) (stands : p ≡ position_after rules rules.start (take i ms))
        (goes : q ≡ rules.play p m) (to_move : turn ≡ rules.turn p)
        (was : clocks_with a b moment ≡ clocks_of game terms)
        (now : clocks_with c d moment ≡ spend terms.increment turn moment (clocks_with a b moment))
        (left_is : left ≡ left_of turn (clocks_with c d moment)) where
      moves : turn ≡ turn_of rules game
      moves = to_move ∙ ap rules.turn (position-is p stands)

      clocks-then : clocks_with c d moment ≡ clocks_of (with_entry game made) terms
      clocks-then =
          now ∙ (λ j. spend terms.increment (moves j) moment (was j))
          ∙ sym (clocks-played rules are.turn_passes are.first_starts game line-so-far m moment terms)

      row-is : ◌≡◌ {A = Row} (number id ∷ number (i + 1) ∷ Text (rules.write_move p m) ∷ number moment ∷ number left
          ∷ Text (rules.write_position q) ∷ []) (entry_row rules terms id game made)
      row-is =
          let here : p ≡ last_position rules game = position-is p stands in
          let all : length (take i ms) ≡ i = length-take-le i ms (omega (arith, within)) in
          let count : length es ≡ length (take i ms) =
          length-map (take i ms) (λ x. record { made = x; moment = moment }) in
          let ply : i + 1 ≡ length es + 1 = omega (arith, all, count) in
          let seconds = left_is ∙ (λ j. left_of (moves j) (clocks-then j)) in
          let there = goes ∙ ap (λ x. rules.play x m) here ∙ sym (last-played rules game m moment) in
          λ j. number id ∷ number (ply j) ∷ Text (rules.write_move (here j) m) ∷ number moment ∷ number (seconds j)
          ∷ Text (rules.write_position (there j)) ∷ []

      pub ply-next : (old new : List Row) (row : Row) → old ≡ rows_at_once rules terms id moment (take i ms)
          → new ≡ old ++ row ∷ []
          → row ≡ number id ∷ number (i + 1) ∷ Text (rules.write_move p m) ∷ number moment ∷ number left
          ∷ Text (rules.write_position q) ∷ []
          → (new ≡ rows_at_once rules terms id moment (take (i + 1) ms))
          × (clocks_with c d moment ≡ clocks_of (game_from [] moment (entries_at_once moment (take (i + 1) ms))) terms)
      ply-next old new row had more is_row = (
        more ∙ (λ j. had j ++ (is_row ∙ row-is) j ∷ []) ∙ sym (rows-append rules terms id (game_from [] moment []) es made)
            ∙ ap (λ l. move_rows rules terms id (game_from [] moment l)) (sym entries-more),
        clocks-then ∙ ap (λ l. clocks_of (game_from [] moment l) terms) (sym entries-more),
      )

-- ---- the game of a record

module _ {P M E T : Type 0} (rules : GameRules P M E T) (terms : Terms) (id : ℕ) (key : Option (List ℕ))
    (pairing : Pairing) (moment : ℕ) (r : Recorded M) where
  pub game-moves : rows_at_once rules terms id moment r.moves ≡
      move_rows rules terms id (imported rules key pairing moment r)
  game-moves =
      rows-alike rules terms id (game_from [] moment []) (record (imported rules key pairing moment r) { entries = [] })
      (entries_at_once moment r.moves) refl refl refl

  pub game-seen : rows_of_texts id (map rules.write_position (positions rules rules.start r.moves))
      ≡ seen_rows rules id (imported rules key pairing moment r)
  game-seen = ap (λ ms. rows_of_texts id (map rules.write_position (positions rules rules.start ms)))
      (sym (made-again moment r.moves))
