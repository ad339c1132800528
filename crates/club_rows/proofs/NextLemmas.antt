-- A row that shows the next move of what was replayed is that of an entry that may be played next, and the other way
-- round.
use Rattle.std.proofs.Common.{◌≡◌, ℕ, ◌-◌, List, [], ◌∷◌, ◌++◌, length, ap, ◌∙◌, arith}
use Rattle.std.specs.Prelude.{ℤ}
use Rattle.std.proofs.lemmas.List.{map-append, length-map}
use Rattle.sqlite_value.specs.declared.value.Value.TheVariants.{Int, Text}
use Rattle.sqlite.specs.Order.{Row}
use Rattle.squares.specs.declared.sides.Side.{Side}
use Rattle.squares.specs.Sides.{other}
use Rattle.club_rules.specs.GameRules.{GameRules}
use Rattle.club_rules.specs.Line.{IsLegalLine}
use Rattle.club_core.specs.Events.{Terms}
use Rattle.club_core.specs.Game.{Entry, Game, spend, clocks_of, clocks_then, moves_of, left_of, left_after}
use Rattle.club_core.specs.Game.{last_position, turn_of}
use Rattle.club_core.proofs.Proved.{AreRules, clocks-played, last-played}
use Rattle.store_tables.specs.declared.rows.MoveRow.{MoveRow}
use Rattle.club_rows.specs.Tables.{with_entry}
use Rattle.club_rows.specs.internal.Replay.{IsNext, Follows, Replays, left_in}
use Rattle.club_rows.specs.declared.replay.Replayed.{Replayed}

-- a row of six columns, by its columns
pub record AreSix (a b d e : ℤ) (c f : List ℕ) (a' b' d' e' : ℤ) (c' f' : List ℕ) : Type 0 where
  pub a_is : a ≡ a'
  pub b_is : b ≡ b'
  pub c_is : c ≡ c'
  pub d_is : d ≡ d'
  pub e_is : e ≡ e'
  pub f_is : f ≡ f'

pub six-parts : (a b d e : ℤ) (c f : List ℕ) (a' b' d' e' : ℤ) (c' f' : List ℕ)
    → ◌≡◌ {A = Row} (Int a ∷ Int b ∷ Text c ∷ Int d ∷ Int e ∷ Text f ∷ [])
    (Int a' ∷ Int b' ∷ Text c' ∷ Int d' ∷ Int e' ∷ Text f' ∷ []) → AreSix a b d e c f a' b' d' e' c' f'
six-parts a b d e c f a' b' d' e' c' f' is = record { a_is = cc; b_is = cc; c_is = cc; d_is = cc; e_is = cc; f_is = cc }

module _ {R P M E T : Type 0} (rules : GameRules P M E T) (laws : AreRules rules) (terms : Terms) (id : ℕ)
    (game : Game M) (line : IsLegalLine rules rules.start (moves_of game)) (replayed : Replayed R P M E T)
    (is : Replays rules game (clocks_of game terms) replayed) (row : MoveRow) where
  count-is : length replayed.line.items ≡ length game.entries
  count-is = let e : length (moves_of game) ≡ length game.entries = simp length-map in ap length is.line ∙ e

  after-is : (e : Entry M) → last_position rules (with_entry game e) ≡ rules.play (last_position rules game) e.made
  after-is e = last-played rules game e.made e.moment

  spent : (e : Entry M) → clocks_then (with_entry game e) terms
      ≡ spend terms.increment (turn_of rules game) e.moment (clocks_of game terms)
  spent e = clocks-played rules laws.turn_passes laws.first_starts game line e.made e.moment terms

  pub follows-next : (made : M) (moment left : ℕ) → IsNext rules terms.increment id replayed row made moment left
      → Follows rules terms id game row (record { made = made; moment = moment })
  follows-next made moment left next =
      let e : Entry M = record { made = made; moment = moment } in
      grind (arith, count-is, after-is e, spent e)

  pub next-follows : (e : Entry M) → Follows rules terms id game row e
      → IsNext rules terms.increment id replayed row e.made e.moment
      (left_of (turn_of rules game) (clocks_then (with_entry game e) terms))
  next-follows e follows = grind (arith, count-is, after-is e, spent e)

  -- what is replayed with the next move more is the game with the entry more
  pub replays-more : (new : Replayed R P M E T) (e : Entry M) (turn : Side) (left : ℕ)
      → turn ≡ rules.turn replayed.position → left ≡ left_after (left_in replayed (rules.turn replayed.position))
      terms.increment (e.moment - replayed.since) → new.line.items ≡ replayed.line.items ++ e.made ∷ []
      → new.position ≡ rules.play replayed.position e.made → left_in new turn ≡ left
      → left_in new (other turn) ≡ left_in replayed (other turn) → new.since ≡ e.moment
      → Replays rules (with_entry game e) (clocks_then (with_entry game e) terms) new
  replays-more new e turn left turn_is left_is line_is position_is mover rest since =
      let made = map-append (λ (x : Entry M). x.made) game.entries (e ∷ []) in
      grind (arith, after-is e, made, spent e)
