-- The texts of a game's positions, how often they stand, and rows that are compared with the counts.
use Rattle.std.proofs.Common.{◌≡◌, ℕ, suc, ◌+◌, ◌≤◌, List, [], ◌∷◌, ◌++◌, length, map, take, Some, refl, ap, sym, ◌∙◌}
use Rattle.std.proofs.Common.{arith, length-take-le, ◌<◌, ◌⊎◌, inl, inr, Bool, true, false, cond, Option, None, subst}
use Rattle.std.proofs.Common.{true≢false}
use Rattle.std.specs.Prelude.{slice_get, string_bytes}
use Rattle.std.proofs.lemmas.List.{length-map}
use Rattle.club_rules.specs.GameRules.{GameRules}
use Rattle.club_rules.specs.Line.{position_after, positions}
use Rattle.club_rules.proofs.Proved.{position_after-append}
use Rattle.club_core.specs.Events.{Terms}
use Rattle.club_core.specs.Game.{Entry, Game, moves_of, last_position}
use Rattle.store_tables.specs.Cells.{move_cells, seen_cells}
use Rattle.store_tables.specs.declared.rows.MoveRow.{MoveRow}
use Rattle.club_rows.specs.Seen.{texts_of, times_in, seen_row, rows_of_texts}
use Rattle.club_rows.specs.internal.Seen.{FirstAt}
use Rattle.club_audit.specs.internal.SeenAudit.{texts_in, AreCounted, IsCountOf, HasCounted}
use Rattle.club_rows.specs.Tables.{with_entry, at_start, entry_rows, move_rows}
use Rattle.club_rows.proofs.Proved.{map-more, take-got, times-none, Texts, row-had, row-has, one-row, one-first}
use Rattle.club_rows.proofs.Proved.{times-new, times-other, first-more, first-new}
use Rattle.club_audit.proofs.PlacedLemmas.{head-is, had-at, one-place}
use Rattle.std.specs.Str.{bytes_eq}
use Rattle.std.proofs.lemmas.Bool.{cases_Bool, cases_eq}
use Rattle.std.proofs.lemmas.Grind.{common_steps}
use Rattle.std.proofs.lemmas.Option.{same_Some, slice_get_within}
use Rattle.std.proofs.lemmas.List.Sums.{count_by-le-length}
use Rattle.sqlite_value.specs.declared.value.Value.TheVariants.{Text}
use Rattle.sqlite.specs.Order.{Row}
use Rattle.sqlite_rules.specs.Lists.{Has}
use Rattle.sqlite_rules.proofs.ListLemmas.{has_got}
use Rattle.club_laws.proofs.Proved.{bytes_eq-same, got-append, map-at, map-got, same-bytes_eq}
use Rattle.store_tables.specs.declared.rows.SeenRow.{SeenRow}
use Rattle.club_rows.specs.EachOnce.{AreEachOnce}
use Rattle.club_rows.specs.internal.Tally.{stood_seldom, stood_then}
use Rattle.club_rows.specs.declared.tally.Occurrences.{Occurrences}

abbrev text_in : MoveRow → List ℕ
text_in row = string_bytes row.position

-- the texts up to a row, and with it
pub texts-step : (start : List ℕ) (moves : List MoveRow) (k : ℕ) (row : MoveRow) → slice_get moves k ≡ Some row
    → texts_in start (take (k + 1) moves) ≡ texts_in start (take k moves) ++ string_bytes row.position ∷ []
texts-step start moves k row at = ap (texts_in start) (take-got moves k row at)
    ∙ ap (λ ts. start ∷ ts) (map-more text_in (take k moves) row)

pub texts-length : (start : List ℕ) (moves : List MoveRow) (k : ℕ) → k ≤ length moves
    → length (texts_in start (take k moves)) ≡ k + 1
texts-length start moves k low = ap suc (length-map (take k moves) text_in ∙ length-take-le k moves low) ∙ omega arith

module _ {P M E T : Type 0} (rules : GameRules P M E T) (terms : Terms) (id : ℕ) where
  last-more : (game : Game M) (e : Entry M)
      → last_position rules (with_entry game e) ≡ rules.play (last_position rules game) e.made
  last-more game e = ap (position_after rules rules.start) (map-more (λ (x : Entry M). x.made) game.entries e)
      ∙ position_after-append rules rules.start (moves_of game) e.made

  rows-texts : (game : Game M) (es : List (Entry M)) (moves : List MoveRow)
      → map move_cells moves ≡ entry_rows rules terms id game es
      → texts_in (rules.write_position (last_position rules game)) moves
      ≡ map rules.write_position (positions rules (last_position rules game) (map (λ x. x.made) es))
  rows-texts game [] [] are = refl
  rows-texts game [] (r ∷ rs) are = cc
  rows-texts game (e ∷ es) [] are = cc
  rows-texts game (e ∷ es) (r ∷ rs) are =
      let (first, rest) = head-is _ _ _ _ are in
      let text : string_bytes r.position ≡ rules.write_position (last_position rules (with_entry game e)) =
      cc in
      ap (λ ts. rules.write_position (last_position rules game) ∷ ts)
      (ap (λ t. t ∷ map text_in rs) text
      ∙ (rows-texts (with_entry game e) es rs rest
      ∙ ap (λ p. map rules.write_position (positions rules p (map (λ (x : Entry M). x.made) es))) (last-more game e)))

  -- the start's text and those of the rows of a game's moves are the texts of its positions
  pub texts-told : (game : Game M) (moves : List MoveRow) (start : List ℕ)
      → map move_cells moves ≡ move_rows rules terms id game → start ≡ rules.write_position rules.start
      → texts_in start moves ≡ texts_of rules game
  texts-told game moves start are is = ap (λ t. texts_in t moves) is ∙ rows-texts (at_start game) game.entries moves are

  rows-length : (game : Game M) (es : List (Entry M)) → length (entry_rows rules terms id game es) ≡ length es
  rows-length game [] = refl
  rows-length game (e ∷ es) = ap suc (rows-length (with_entry game e) es)

  -- there are as many rows as entries
  pub moves-count : (game : Game M) (moves : List MoveRow) → map move_cells moves ≡ move_rows rules terms id game
      → length moves ≡ length game.entries
  moves-count game moves are = sym (length-map moves move_cells)
      ∙ (ap length are ∙ rows-length (at_start game) game.entries)

-- what is found of each text
abbrev pub Found : Type 0
Found = List ℕ → Option Occurrences

-- ---- counts

pub counted-start : (found : Found) → ((text : List ℕ) → found text ≡ None) → AreCounted [] found
counted-start found none text = subst (IsCountOf [] text) (sym (none text)) (λ k at. cc)

-- what is counted of a text is no more than there are texts
pub counted-few : (texts : Texts) (text : List ℕ) (stood : Option Occurrences) → IsCountOf texts text stood
    → length texts ≤ 600 → stood_seldom stood
counted-few texts text None is few = tt
counted-few texts text (Some s) is few =
    let most = count_by-le-length (bytes_eq text) texts in
    let times = is.0 in
    omega (arith, most, times, few)

differ-back : (a b : List ℕ) → bytes_eq a b ≡ false → bytes_eq b a ≡ false
differ-back a b differ = grind (arith, bytes_eq-same a b, same-bytes_eq b a)

-- the new text stands once more
once-more : (texts : Texts) (new : List ℕ) (stood : Option Occurrences) → IsCountOf texts new stood
    → IsCountOf (texts ++ new ∷ []) new (Some (stood_then stood (length texts)))
once-more texts new None never =
    let count = times-new texts new in
    let none = times-none texts new never in
    (omega (arith, count, none), first-new texts new never)
once-more texts new (Some s) is =
    let count = times-new texts new in
    let times = is.0 in
    (omega (arith, count, times), first-more texts new s.first_ply new is.1)

-- and each other one as often as before
as-before : (texts : Texts) (new text : List ℕ) (stood : Option Occurrences) → bytes_eq new text ≡ false
    → IsCountOf texts text stood → IsCountOf (texts ++ new ∷ []) text stood
as-before texts new text None differ never = λ k at. elim (got-append texts new k text at) [
  | inl old ↦ never k old
  | inr last ↦ true≢false (sym (bytes_eq-same new text last.1) ∙ differ)
]
as-before texts new text (Some s) differ is =
    (is.0 ∙ sym (times-other texts new text (differ-back new text differ)), first-more texts new s.first_ply text is.1)

pub counted-more : (texts : Texts) (new : List ℕ) (old now : Found) → AreCounted texts old
    → ((text : List ℕ) → now text ≡ cond (bytes_eq new text) (Some (stood_then (old new) (length texts))) (old text))
    → AreCounted (texts ++ new ∷ []) now
counted-more texts new old now counted after text =
    subst (IsCountOf (texts ++ new ∷ []) text) (sym (after text)) (by (bytes_eq new text) refl)
  where
    by : (b : Bool) → bytes_eq new text ≡ b →
        IsCountOf (texts ++ new ∷ []) text (cond b (Some (stood_then (old new) (length texts))) (old text))
    by true same = subst (λ t. IsCountOf (texts ++ new ∷ []) t (Some (stood_then (old new) (length texts))))
        (same-bytes_eq new text same) (once-more texts new (old new) (counted new))
    by false differ = as-before texts new text (old text) differ (counted text)

-- ---- rows that are compared

abbrev text_of : SeenRow → List ℕ
text_of row = string_bytes row.position

never-none : (id : ℕ) (row : SeenRow) (stood : Option Occurrences) → HasCounted id row stood → stood ≡ None → ⊥
never-none id row None has is = has
never-none id row (Some s) has is = cc

module _ (id : ℕ) (counts : Found) (rows : List SeenRow) where
  -- So many of the rows had what was counted for their texts, no two of them one text, and their texts are no longer
  -- found.
  pub record Matched (index : ℕ) (found : Found) : Type 0 where
    pub had : (n : ℕ) (r : SeenRow) → n < index → slice_get rows n ≡ Some r → HasCounted id r (counts (text_of r))
    pub apart : (i j : ℕ) (r q : SeenRow) → i < j → j < index → slice_get rows i ≡ Some r → slice_get rows j ≡ Some q
        → text_of r ≡ text_of q → ⊥
    pub gone : (k : List ℕ) → found k ≡ None → (counts k ≡ None)
        ⊎ ((n : ℕ) × (r : SeenRow) × (n < index) × (slice_get rows n ≡ Some r) × (text_of r ≡ k))
    pub taken : (n : ℕ) (r : SeenRow) → n < index → slice_get rows n ≡ Some r → found (text_of r) ≡ None
    pub left : (k : List ℕ) → ((n : ℕ) (r : SeenRow) → n < index → slice_get rows n ≡ Some r → text_of r ≡ k → ⊥)
        → found k ≡ counts k

  -- a row, by the text that is looked for and what is found of it
  module _ (index : ℕ) (row : SeenRow) (found : Found) (is : Matched index found) (at : slice_get rows index ≡ Some row)
      (text : List ℕ) (text_is : text ≡ text_of row) (stood : Option Occurrences) (stood_is : stood ≡ found text)
      (has : HasCounted id row stood) where
    fits : HasCounted id row (found (text_of row))
    fits = subst (HasCounted id row) (stood_is ∙ ap found text_is) has

    -- no row before it has its text
    new-text : (n : ℕ) (r : SeenRow) → n < index → slice_get rows n ≡ Some r → text_of r ≡ text_of row → ⊥
    new-text n r low there alike =
        never-none id row (found (text_of row)) fits (ap found (sym alike) ∙ is.taken n r low there)

    here : (n : ℕ) (r : SeenRow) → n ≡ index → slice_get rows n ≡ Some r → row ≡ r
    here n r place there = same_Some row r (sym at ∙ (ap (slice_get rows) (sym place) ∙ there))

    -- a row more
    pub matched-more : (now : Found) → ((k : List ℕ) → now k ≡ cond (bytes_eq text k) None (found k))
        → Matched (index + 1) now
    matched-more now after = record {
      had = λ n r low there. elim (cases_eq n index) [
        | inl place ↦ subst (λ x. HasCounted id x (counts (text_of x))) (here n r place there)
            (subst (HasCounted id row) (is.left (text_of row) new-text) fits)
        | inr other ↦ is.had n r (omega (arith, low, other)) there
      ];
      apart = λ i j r q less high there yonder alike. elim (cases_eq j index) [
        | inl place ↦
            new-text i r (omega (arith, less, place)) there (alike ∙ sym (ap text_of (here j q place yonder)))
        | inr before ↦ is.apart i j r q less (omega (arith, high, before)) there yonder alike
      ];
      gone = λ k none. elim (cases_Bool (bytes_eq (text_of row) k)) [
        | inl alike ↦ inr (index, row, omega arith, at, same-bytes_eq (text_of row) k alike)
        | inr other ↦ elim (is.gone k (sym (kept k other) ∙ none)) [
          | inl nowhere ↦ inl nowhere
          | inr (n, r, low, there, alike) ↦ inr (n, r, omega (arith, low), there, alike)
        ]
      ];
      taken = λ n r low there. grind (
        arith,
        common_steps,
        takes (text_of r),
        is.taken n r,
        here n r,
        there,
        low,
        bytes_eq-same (text_of row) (text_of r),
      );
      left = λ k none. elim (cases_Bool (bytes_eq (text_of row) k)) [
        | inl alike ↦ absurd (none index row (omega arith) at (same-bytes_eq (text_of row) k alike))
        | inr other ↦ kept k other ∙ is.left k (λ n r low there alike. none n r (omega (arith, low)) there alike)
      ];
    }
      where
        takes : (k : List ℕ) → now k ≡ cond (bytes_eq (text_of row) k) None (found k)
        takes k = after k ∙ ap (λ t. cond (bytes_eq t k) None (found k)) text_is

        kept : (k : List ℕ) → bytes_eq (text_of row) k ≡ false → now k ≡ found k
        kept k other = takes k ∙ ap (λ b. cond b None (found k)) other

  -- ---- what was compared, and the rows of texts

  -- the rows, by their cells
  cells-had : (z : Row) → Has (map seen_cells rows) z → (n : ℕ) × (r : SeenRow) × (slice_get rows n ≡ Some r)
      × (seen_cells r ≡ z)
  cells-had z has =
      let (n, at) = had-at (map seen_cells rows) z has in
      let (r, stands, is) = map-got seen_cells rows n z at in
      (n, r, stands, is)

  cells-has : (n : ℕ) (r : SeenRow) → slice_get rows n ≡ Some r → Has (map seen_cells rows) (seen_cells r)
  cells-has n r at = has_got (map seen_cells rows) n (seen_cells r) (map-at seen_cells rows n r at)

  module _ (texts : Texts) (counted : AreCounted texts counts) where
    -- a row that has what was counted for its text is the row of its text
    pub counted-row : (row : SeenRow) (stood : Option Occurrences) → IsCountOf texts (text_of row) stood
        → HasCounted id row stood → Has (rows_of_texts id texts) (seen_cells row)
    counted-row row None is has = absurd has
    counted-row row (Some s) is has =
        subst (Has (rows_of_texts id texts)) (sym (has ∙ ap (λ n. seen_row id (text_of row) n s.first_ply) is.0))
        (row-has id texts s.first_ply (text_of row) is.1)

    -- and the row of its text has what was counted for it
    pub row-counted : (row : SeenRow) (stood : Option Occurrences) → IsCountOf texts (text_of row) stood
        → Has (rows_of_texts id texts) (seen_cells row) → HasCounted id row stood
    row-counted row stood is h =
        let it = row-had id texts (seen_cells row) h in
        let same : text_of row ≡ it.text = cc in
        by stood it.ply (subst (FirstAt texts it.ply) (sym same) it.first)
        (it.is ∙ ap (λ t. seen_row id t (times_in texts t) it.ply) (sym same)) is
      where
        by : (o : Option Occurrences) (ply : ℕ) → FirstAt texts ply (text_of row)
            → seen_cells row ≡ seen_row id (text_of row) (times_in texts (text_of row)) ply
            → IsCountOf texts (text_of row) o → HasCounted id row o
        by None ply first cells never = never ply first.at
        by (Some s) ply first cells is =
            let same = one-first texts (text_of row) ply s.first_ply first is.1 in
            let times = is.0 in
            cc

    -- Where all rows had what was counted, and no text is left, the rows are those of the texts.
    pub matched-sound : (found : Found) (index : ℕ) → length rows ≤ index → Matched index found
        → ((text : List ℕ) → found text ≡ None) → AreEachOnce (map seen_cells rows) (rows_of_texts id texts)
    matched-sound found index past is none = record {
      same = record { there = there; back = back };
      once = λ i j z at yonder.
          let (r, r_at, r_is) = map-got seen_cells rows i z at in
          let (q, q_at, q_is) = map-got seen_cells rows j z yonder in
          let alike : text_of r ≡ text_of q = cc in
          one-place i j (λ less. is.apart i j r q less (below j q q_at) r_at q_at alike)
          (λ more. is.apart j i q r more (below i r r_at) q_at r_at (sym alike));
    }
      where
        below : (n : ℕ) (r : SeenRow) → slice_get rows n ≡ Some r → n < index
        below n r at = let low = slice_get_within rows n r at in omega (arith, low, past)

        there : (z : Row) → Has (map seen_cells rows) z → Has (rows_of_texts id texts) z
        there z h =
            let (n, r, at, same) = cells-had z h in
            subst (Has (rows_of_texts id texts)) same
            (counted-row r (counts (text_of r)) (counted (text_of r))
            (is.had n r (below n r at) at))

        back : (z : Row) → Has (rows_of_texts id texts) z → Has (map seen_cells rows) z
        back z h =
            let it = row-had id texts z h in
            elim (is.gone it.text (none it.text)) [
              | inl never ↦ absurd (subst (IsCountOf texts it.text) never (counted it.text) it.ply it.first.at)
              | inr (n, r, low, at, text) ↦
                  let mine = counted-row r (counts (text_of r)) (counted (text_of r)) (is.had n r low at) in
                  let same = one-row id texts (seen_cells r) z mine h (cc it.is) in
                  subst (Has (map seen_cells rows)) same (cells-has n r at)
            ]

    module _ (are : AreEachOnce (map seen_cells rows) (rows_of_texts id texts)) where
      -- where the rows are those of the texts, the next one has what was counted for its text
      pub matched-next : (index : ℕ) (row : SeenRow) (found : Found) → Matched index found
          → slice_get rows index ≡ Some row → (text : List ℕ) → text ≡ text_of row → (stood : Option Occurrences)
          → stood ≡ found text → HasCounted id row stood
      matched-next index row found is at text text_is stood stood_is =
          let mine = are.same.there (seen_cells row) (cells-has index row at) in
          subst (HasCounted id row)
          (sym (stood_is ∙ (ap found text_is ∙ is.left (text_of row) (λ n r low there same.
          let its = are.same.there (seen_cells r) (cells-has n r there) in
          let one = one-row id texts (seen_cells r) (seen_cells row) its mine (ap Text same) in
          let place = are.once n index (seen_cells row) (map-at seen_cells rows n r there ∙ ap Some one)
          (map-at seen_cells rows index row at) in
          omega (arith, low, place)))))
          (row-counted row (counts (text_of row)) (counted (text_of row)) mine)

      -- and no text is left after the last one
      pub matched-all : (found : Found) (index : ℕ) → length rows ≤ index → Matched index found
          → (text : List ℕ) → found text ≡ None
      matched-all found index past is text = by (found text) refl
        where
          by : (o : Option Occurrences) → found text ≡ o → found text ≡ None
          by None is_none = is_none
          by (Some s) some =
              let free : (n : ℕ) (r : SeenRow) → n < index → slice_get rows n ≡ Some r → text_of r ≡ text
              → ⊥ = λ n r low at same. let none = is.taken n r low at in cc in
              let count : IsCountOf texts text (Some s) =
              subst (IsCountOf texts text) (sym (is.left text free) ∙ some) (counted text) in
              let has = are.same.back (seen_row id text (times_in texts text) s.first_ply)
              (row-has id texts s.first_ply text count.1) in
              let (n, r, at, same) = cells-had (seen_row id text (times_in texts text) s.first_ply) has in
              let low = slice_get_within rows n r at in
              absurd (free n r (omega (arith, low, past)) at (cc same))
