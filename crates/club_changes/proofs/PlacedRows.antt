-- Rows that have their places, from 1, in a column; the rows of a game's moves are such.
use Rattle.std.proofs.Common.{◌≡◌, ℕ, zero, suc, ◌+◌, List, [], ◌∷◌, ◌++◌, length, Option, Some, None, refl, ap}
use Rattle.std.proofs.Common.{sym, subst, ◌∙◌, arith, length-append}
use Rattle.std.specs.Prelude.{slice_get}
use Rattle.std.proofs.lemmas.Option.{same_Some}
use Rattle.sqlite.specs.Order.{Row, column}
use Rattle.sqlite_rules.specs.Lists.{Has}
use Rattle.sqlite_rules.proofs.ListLemmas.{has_got}
use Rattle.club_rules.specs.GameRules.{GameRules}
use Rattle.club_core.specs.Events.{Terms}
use Rattle.club_core.specs.Game.{Entry, Game}
use Rattle.club_rows.specs.Tables.{number, entry_row, entry_rows, move_rows, at_start, with_entry}
use Rattle.store_tables.specs.Changes.{HaveSame}
use Rattle.club_changes.proofs.PlacedIds.{had_at, number_same}

pub same_list : (xs ys : List Row) → ((n : ℕ) (z : Row) → slice_get xs n ≡ Some z → slice_get ys n ≡ Some z)
    → ((n : ℕ) (z : Row) → slice_get ys n ≡ Some z → slice_get xs n ≡ Some z) → xs ≡ ys
same_list [] [] there back = refl
same_list [] (y ∷ ys) there back = let none : ◌≡◌ {A = Option Row} None (Some y) = back 0 y refl in cc
same_list (x ∷ xs) [] there back = let none : ◌≡◌ {A = Option Row} None (Some x) = there 0 x refl in cc
same_list (x ∷ xs) (y ∷ ys) there back =
    let e = sym (same_Some y x (there 0 x refl)) in
    let rest = same_list xs ys (λ n z h. there (suc n) z h) (λ n z h. back (suc n) z h) in
    λ i. e i ∷ rest i

-- each row has its place, from 1, in the column
abbrev pub AreAtPlaces : ℕ → List Row → Type 0
AreAtPlaces at xs = (n : ℕ) (z : Row) → slice_get xs n ≡ Some z → column z at ≡ number (1 + n)

placed_same : (at : ℕ) (xs ys : List Row) → AreAtPlaces at xs → AreAtPlaces at ys → ((z : Row) → Has xs z → Has ys z)
    → (n : ℕ) (z : Row) → slice_get xs n ≡ Some z → slice_get ys n ≡ Some z
placed_same at xs ys places others same n z stands =
    let (k, there) = had_at ys z (same z (has_got xs n z stands)) in
    let e = number_same (1 + k) (1 + n) (sym (others k z there) ∙ places n z stands) in
    let k_is : k ≡ n = omega (arith, e) in
    subst (λ j. slice_get ys j ≡ Some z) k_is there

-- the same rows by their places are one list
pub one_line : (at : ℕ) (xs ys : List Row) → AreAtPlaces at xs → AreAtPlaces at ys → HaveSame xs ys → xs ≡ ys
one_line at xs ys places others same =
    same_list xs ys (placed_same at xs ys places others same.there) (placed_same at ys xs others places same.back)

module _ {P M E T : Type 0} (rules : GameRules P M E T) (terms : Terms) (id : ℕ) where
  pub entry_rows_at : (game : Game M) (es : List (Entry M)) (n : ℕ) (z : Row)
      → slice_get (entry_rows rules terms id game es) n ≡ Some z → column z 1 ≡ number (length game.entries + (1 + n))
  entry_rows_at game [] n z at = cc
  entry_rows_at game (e ∷ es) zero z at =
      let is : entry_row rules terms id game e ≡ z = cc in
      ap (λ w. column w 1) (sym is)
  entry_rows_at game (e ∷ es) (suc n) z at =
      let count : length (game.entries ++ e ∷ []) ≡ length game.entries + 1 = simp length-append in
      let same : length (game.entries ++ e ∷ []) + (1 + n) ≡ length game.entries + (1 + suc n) = omega (arith, count) in
      entry_rows_at (with_entry game e) es n z at ∙ ap number same

  -- the rows of a game's moves have their plies in the second column
  pub moves-placed : (game : Game M) → AreAtPlaces 1 (move_rows rules terms id game)
  moves-placed game n z at =
      let next : 0 + (1 + n) ≡ 1 + n = omega arith in
      entry_rows_at (at_start game) game.entries n z at ∙ ap number next
