-- The rows of one game's positions: what one more entry changes, and what a row tells of the line.
use Rattle.std.proofs.Common.{◌≡◌, ℕ, suc, ◌+◌, inl, inr, List, [], ◌∷◌, ◌++◌, length, map, true, refl, ap, sym, ◌∙◌}
use Rattle.std.proofs.Common.{arith}
use Rattle.std.specs.Str.{bytes_eq}
use Rattle.std.proofs.lemmas.Bool.{cases_Bool}
use Rattle.std.proofs.lemmas.List.{length-map, map-append}
use Rattle.sqlite_value.specs.declared.value.Value.TheVariants.{Text}
use Rattle.sqlite.specs.Order.{Row, column}
use Rattle.sqlite_rules.specs.Lists.{Has}
use Rattle.store_tables.specs.internal.Changes.{Alters}
use Rattle.store_tables.specs.Content.{same_key}
use Rattle.club_rules.specs.GameRules.{GameRules}
use Rattle.club_rules.specs.Line.{positions}
use Rattle.club_core.specs.Game.{Entry, Game, moves_of, last_position}
use Rattle.club_laws.proofs.Proved.{same-bytes_eq, bytes_eq-same}
use Rattle.club_rows.specs.Tables.{number}
use Rattle.club_rows.specs.Seen.{times_in, seen_row, rows_of_texts, texts_of, seen_rows}
use Rattle.club_rows.specs.internal.Seen.{IsSeenRow}
use Rattle.club_rows.proofs.KeyPairs.{same-texts, keys-agree}
use Rattle.club_rows.proofs.TallyLemmas.{positions-append}
use Rattle.club_rows.proofs.SeenTexts.{row-had, row-has, one-row, times-other, first-more, first-old}

-- ---- rows of texts

pub seen-id : (id : ℕ) (texts : List (List ℕ)) (row : Row) → Has (rows_of_texts id texts) row → column row 0 ≡ number id
seen-id id texts row h = let it = row-had id texts row h in ap (λ r. column r 0) it.is

-- no two rows of texts have one key
pub texts-apart : (id : ℕ) (texts : List (List ℕ)) (z w : Row) → Has (rows_of_texts id texts) z
    → Has (rows_of_texts id texts) w → same_key (0 ∷ 1 ∷ []) z w ≡ true → z ≡ w
texts-apart id texts z w h g same =
    let it = row-had id texts z h in
    let its = row-had id texts w g in
    let one = same-texts z w it.text its.text (ap (λ r. column r 1) it.is) (ap (λ r. column r 1) its.is) same in
    one-row id texts z w h g (ap (λ r. column r 1) it.is ∙ (ap Text one ∙ sym (ap (λ r. column r 1) its.is)))

-- a text more: its row is put, and no other row changes
pub texts-alter : (id : ℕ) (texts : List (List ℕ)) (new : List ℕ) (row : Row)
    → Has (rows_of_texts id (texts ++ new ∷ [])) row → column row 1 ≡ Text new
    → Alters (0 ∷ 1 ∷ []) (row ∷ []) (rows_of_texts id texts) (rows_of_texts id (texts ++ new ∷ []))
texts-alter id texts new row there text_is = record {
  among = λ z h. elim h [ inl is ↦ rw is there | inr none ↦ absurd none ];
  from = λ z h.
      let it = row-had id (texts ++ new ∷ []) z h in
      elim (cases_Bool (bytes_eq it.text new)) [
        | inl same ↦
            inr
            (inl
            (one-row id (texts ++ new ∷ []) z row h there
            (ap (λ r. column r 1) it.is ∙ (ap Text (same-bytes_eq it.text new same) ∙ sym text_is))))
        | inr other ↦
            inl
            (rw (it.is, times-other texts new it.text other)
            (row-has id texts it.ply it.text (first-old texts new it.ply it.text other it.first)))
      ];
  stays = λ z h.
      let it = row-had id texts z h in
      elim (cases_Bool (bytes_eq it.text new)) [
        | inl same ↦
            inr (
              row,
              inl refl,
              keys-agree z row (number id) (Text new) (λ e. cc) (λ e. cc) (seen-id id texts z h)
                  (seen-id id (texts ++ new ∷ []) row there)
                  (ap (λ r. column r 1) it.is ∙ ap Text (same-bytes_eq it.text new same)) text_is,
            )
        | inr other ↦
            inl
            (rw (it.is, ← (times-other texts new it.text other))
            (row-has id (texts ++ new ∷ []) it.ply it.text (first-more texts new it.ply it.text it.first)))
      ];
  one = texts-apart id (texts ++ new ∷ []);
}

-- ---- a game

pub map-more : {A B : Type 0} (f : A → B) (xs : List A) (x : A) → map f (xs ++ x ∷ []) ≡ map f xs ++ f x ∷ []
map-more f xs x = map-append f xs (x ∷ [])

module _ {P M E T : Type 0} (rules : GameRules P M E T) where
  pub positions-count : (p : P) (ms : List M) → length (positions rules p ms) ≡ length ms + 1
  positions-count p [] = refl
  positions-count p (m ∷ ms) = ap suc (positions-count (rules.play p m) ms) ∙ omega arith

  -- a game has a text more than it has entries
  pub texts-count : (game : Game M) → length (texts_of rules game) ≡ length game.entries + 1
  texts-count game = simp (length-map, positions-count)

  -- the texts of a game with one entry more
  pub texts-more : (old new : Game M) (e : Entry M) → new.entries ≡ old.entries ++ e ∷ []
      → texts_of rules new ≡ texts_of rules old ++ rules.write_position (last_position rules new) ∷ []
  texts-more old new e grown =
      let moves : moves_of new ≡ moves_of old ++ e.made ∷ [] = ap (map (λ (x : Entry M). x.made)) grown
      ∙ map-more (λ (x : Entry M). x.made) old.entries e in
      simp (moves, positions-append rules, map-append)

  -- the row of the position after an entry is put, and no other row of the game changes
  pub entry-alters : (id : ℕ) (old new : Game M) (e : Entry M) (row : Row) → new.entries ≡ old.entries ++ e ∷ []
      → IsSeenRow rules id new (rules.write_position (last_position rules new)) row
      → Alters (0 ∷ 1 ∷ []) (row ∷ []) (seen_rows rules id old) (seen_rows rules id new)
  entry-alters id old new e row grown is =
      let more = texts-more old new e grown in
      rw more (texts-alter id (texts_of rules old) (rules.write_position (last_position rules new)) row
      (rw more at is.there) is.text_is)

  -- games of the same entries have the same rows
  pub seen-stay : (id : ℕ) (one other : Game M) → one.entries ≡ other.entries
      → seen_rows rules id one ≡ seen_rows rules id other
  seen-stay id one other same =
      ap
      (λ (es : List (Entry M)). rows_of_texts id
      (map rules.write_position (positions rules rules.start (map (λ x. x.made) es)))) same

  pub seen-row-stays : (id : ℕ) (one other : Game M) (text : List ℕ) (row : Row) → one.entries ≡ other.entries
      → IsSeenRow rules id one text row → IsSeenRow rules id other text row
  seen-row-stays id one other text row same is =
      record { there = rw (seen-stay id one other same) at is.there; text_is = is.text_is }

  -- a game without an entry has the one row of the opening
  pub seen-start : (id : ℕ) (game : Game M) → game.entries ≡ []
      → seen_rows rules id game ≡ seen_row id (rules.write_position rules.start) 1 0 ∷ []
  seen-start id game none =
      let text = rules.write_position rules.start in
      let once : times_in (text ∷ []) text ≡ 1 = grind (arith, bytes_eq-same text text refl) in
      seen-stay id game (record game { entries = [] }) none ∙ ap (λ n. seen_row id text n 0 ∷ []) once
