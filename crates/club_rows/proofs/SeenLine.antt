-- What the row of a game's last position tells of its line: how often the position stood, and after which ply first.
use Rattle.std.proofs.Common.{◌≡◌, ℕ, zero, suc, ◌≤◌, List, [], ◌∷◌, length, map, take, pos, Bool, true, cond, Some}
use Rattle.std.proofs.Common.{refl, ap, sym, ◌∙◌, arith}
use Rattle.std.specs.Prelude.{count_by, slice_get}
use Rattle.std.specs.Str.{bytes_eq}
use Rattle.std.proofs.lemmas.List.{length-map}
use Rattle.std.proofs.lemmas.Option.{slice_get_within}
use Rattle.std.proofs.lemmas.List.Sums.{sum_by-cons}
use Rattle.sqlite_value.specs.declared.value.Value.TheVariants.{Int}
use Rattle.sqlite.specs.Order.{Row, column}
use Rattle.club_rules.specs.GameRules.{GameRules}
use Rattle.club_rules.specs.Laws.{SamePositionIs, TextsTellPositions}
use Rattle.club_rules.specs.Line.{position_after, positions, IsLegalLine, times_stood, FirstStands}
use Rattle.club_core.specs.Game.{Game, moves_of, last_position}
use Rattle.club_laws.proofs.Proved.{same-bytes_eq, bytes_eq-same}
use Rattle.store_tables.specs.Cells.{seen_cells}
use Rattle.store_tables.specs.declared.rows.SeenRow.{SeenRow}
use Rattle.club_rows.specs.Seen.{times_in, texts_of}
use Rattle.club_rows.specs.internal.Seen.{IsSeenRow}
use Rattle.club_rows.proofs.LineLemmas.{IsLegalLine-take}
use Rattle.club_rows.proofs.SeenGame.{positions-count}
use Rattle.club_rows.proofs.SeenTexts.{FirstAt, row-had}

count-alike : {A B : Type 0} (f : A → B) (test : B → Bool) (other : A → Bool) (xs : List A)
    → ((n : ℕ) (x : A) → slice_get xs n ≡ Some x → test (f x) ≡ other x) → count_by test (map f xs) ≡ count_by other xs
count-alike f test other [] same = refl
count-alike f test other (x ∷ xs) same =
    let rest = count-alike f test other xs (λ n y at. same (suc n) y at) in
    let first = sum_by-cons (λ y. cond (test y) 1 0) (f x) (map f xs) in
    let second = sum_by-cons (λ y. cond (other y) 1 0) x xs in
    grind (arith, rest, first, second, same 0 x refl)

bools-same : (a b : Bool) → (a ≡ true → b ≡ true) → (b ≡ true → a ≡ true) → a ≡ b
bools-same a b there back = grind arith

module _ {P M E T : Type 0} (rules : GameRules P M E T) where
  -- each position of a line stands after so many plies
  position-at : (p : P) (ms : List M) (n : ℕ) (q : P) → slice_get (positions rules p ms) n ≡ Some q
      → (q ≡ position_after rules p (take n ms)) × (n ≤ length ms)
  position-at p [] zero q at = (cc, omega arith)
  position-at p [] (suc n) q at = cc
  position-at p (m ∷ ms) zero q at = (cc, omega arith)
  position-at p (m ∷ ms) (suc n) q at = let (is, low) = position-at (rules.play p m) ms n q at in
      (is, omega (arith, low))

  text-at : (p : P) (ms : List M) (n : ℕ) → n ≤ length ms
      → slice_get (map rules.write_position (positions rules p ms)) n
      ≡ Some (rules.write_position (position_after rules p (take n ms)))
  text-at p [] zero low = refl
  text-at p [] (suc n) low = absurd (omega (arith, low))
  text-at p (m ∷ ms) zero low = refl
  text-at p (m ∷ ms) (suc n) low = text-at (rules.play p m) ms n (omega (arith, low))

  module _ (same_is : SamePositionIs rules) (tell : TextsTellPositions rules) (ms : List M)
      (legal : IsLegalLine rules rules.start ms) where
    abbrev last : P
    last = position_after rules rules.start ms

    abbrev texts : List (List ℕ)
    texts = map rules.write_position (positions rules rules.start ms)

    -- positions with one text are one
    told : (k : ℕ) → rules.write_position (position_after rules rules.start (take k ms)) ≡ rules.write_position last
        → position_after rules rules.start (take k ms) ≡ last
    told k same = tell (take k ms) ms (IsLegalLine-take rules k rules.start ms legal) legal same

    -- the last position's text stands as often as the position
    text-times : times_in texts (rules.write_position last) ≡ times_stood rules rules.start ms
    text-times = count-alike rules.write_position (bytes_eq (rules.write_position last))
        (λ q. rules.same_position q last) (positions rules rules.start ms) same
      where
        same : (n : ℕ) (q : P) → slice_get (positions rules rules.start ms) n ≡ Some q
            → bytes_eq (rules.write_position last) (rules.write_position q) ≡ rules.same_position q last
        same n q at =
            let (is, low) = position-at rules.start ms n q at in
            bools-same _ _
            (λ alike.
            (same_is q last).1 (is ∙ told n (ap rules.write_position (sym is) ∙ sym (same-bytes_eq _ _ alike))))
            (λ one. bytes_eq-same _ _ (ap rules.write_position (sym ((same_is q last).0 one))))

    -- and stands first where the position does
    text-first : (ply : ℕ) → FirstAt texts ply (rules.write_position last) → FirstStands rules rules.start ms ply
    text-first ply first =
        let within = slice_get_within texts ply (rules.write_position last) first.at in
        let count = positions-count rules rules.start ms in
        let texts_count = length-map (positions rules rules.start ms) rules.write_position in
        let low : ply ≤ length ms = omega (arith, within, count, texts_count) in
        let both = sym (text-at rules.start ms ply low) ∙ first.at in
        record {
          within = low;
          stands = told ply (cc);
          earliest = λ k before here. first.earliest k before
              (text-at rules.start ms k (omega (arith, before, low)) ∙ ap (λ q. Some (rules.write_position q)) here);
        }

  -- the numbers of a stored row
  pub numbers-in : (id : ℕ) (game : Game M) (text : List ℕ) (row : SeenRow)
      → IsSeenRow rules id game text (seen_cells row) → (count : ℕ) × (first : ℕ) × (row.count ≡ pos count)
      × (row.first_ply ≡ pos first)
  numbers-in id game text row is =
      let it = row-had id (texts_of rules game) (seen_cells row) is.there in
      let row_is = it.is in
      (times_in (texts_of rules game) it.text, it.ply, cc, cc)

  -- The row of a legal game's last position tells how often the position stood, and after which ply first.
  pub stood-in-row : SamePositionIs rules → TextsTellPositions rules
      → (id : ℕ) (game : Game M) (row : Row) (times first : ℕ) → IsLegalLine rules rules.start (moves_of game)
      → IsSeenRow rules id game (rules.write_position (last_position rules game)) row
      → column row 2 ≡ Int (pos times) → column row 3 ≡ Int (pos first)
      → (times ≡ times_stood rules rules.start (moves_of game))
      × FirstStands rules rules.start (moves_of game) first
  stood-in-row same_is tell id game row times first legal is times_is first_is =
      let it = row-had id (texts_of rules game) row is.there in
      let row_is = it.is in
      let text : it.text ≡ rules.write_position (last_position rules game) = cc (is.text_is) in
      let count : times ≡ times_in (texts_of rules game) it.text = cc in
      let place : first ≡ it.ply = cc in (
        count ∙ (ap (times_in (texts_of rules game)) text ∙ text-times same_is tell (moves_of game) legal),
        rw place (text-first same_is tell (moves_of game) legal it.ply (rw text at it.first)),
      )
