-- The row of a position that stands once more, made from the row that was found for it.
use Rattle.std.proofs.Common.{◌≡◌, ℕ, zero, suc, ◌+◌, ◌<◌, ◌≤◌, ◌^◌, inl, inr, List, [], ◌∷◌, ◌++◌, length, pos, cond}
use Rattle.std.proofs.Common.{Option, Some, None, refl, ap, sym, ◌∙◌, arith}
use Rattle.std.specs.Prelude.{slice_get}
use Rattle.std.specs.Str.{bytes_eq}
use Rattle.std.proofs.lemmas.Bool.{cases_Bool}
use Rattle.std.proofs.lemmas.List.Sums.{sum_by-cons, count_by-le-length}
use Rattle.sqlite_value.specs.declared.value.Value.TheVariants.{Text}
use Rattle.sqlite.specs.Order.{Row, column}
use Rattle.sqlite_rules.specs.Lists.{Has}
use Rattle.club_rules.specs.GameRules.{GameRules}
use Rattle.club_core.specs.Game.{Entry, Game, last_position}
use Rattle.club_laws.proofs.Proved.{same-bytes_eq}
use Rattle.store_tables.specs.Cells.{seen_cells}
use Rattle.store_tables.specs.declared.rows.SeenRow.{SeenRow}
use Rattle.club_rows.specs.Seen.{times_in, stood_before, seen_row, rows_of_texts, texts_of}
use Rattle.club_rows.specs.internal.Seen.{IsSeenRow, IsFound}
use Rattle.club_rows.specs.Tables.{with_entry}
use Rattle.club_rows.proofs.SeenGame.{texts-more, texts-count}
use Rattle.club_rows.proofs.SeenTexts.{Texts, FirstAt, stood-at, at-stood, row-had, row-has, first-more, first-new}
use Rattle.club_rows.proofs.SeenTexts.{times-new}

-- ---- texts that stand nowhere, and the first place of one that stands

first-within : (texts : Texts) (text : List ℕ) (n k : ℕ) → k < n → slice_get texts k ≡ Some text → (ply : ℕ)
    × FirstAt texts ply text
first-within texts text zero k low at = absurd (omega (arith, low))
first-within texts text (suc n) k low at = elim (cases_Bool (stood_before texts k text)) [
  | inl stood ↦ let (j, before, there) = stood-at texts k text stood in
      first-within texts text n j (omega (arith, low, before)) there
  | inr new ↦ (k, grind (arith, at, at-stood texts k text, new))
]

-- a text that stands has a row
stands-had : (id : ℕ) (texts : Texts) (text : List ℕ)
    → ((row : Row) → Has (rows_of_texts id texts) row → column row 1 ≡ Text text → ⊥) → (k : ℕ)
    → slice_get texts k ≡ Some text → ⊥
stands-had id texts text none k at =
    let (ply, first) = first-within texts text (suc k) k (omega arith) at in
    none (seen_row id text (times_in texts text) ply) (row-has id texts ply text first) refl

-- what stands nowhere stands no time
pub times-none : (texts : Texts) (text : List ℕ) → ((k : ℕ) → slice_get texts k ≡ Some text → ⊥)
    → times_in texts text ≡ 0
times-none [] text never = refl
times-none (t ∷ ts) text never =
    let rest = times-none ts text (λ k at. never (suc k) at) in
    elim (cases_Bool (bytes_eq text t)) [
      | inl same ↦ absurd (never 0 (ap Some (sym (same-bytes_eq text t same))))
      | inr other ↦ grind (arith, sum_by-cons (λ u. cond (bytes_eq text u) 1 0) t ts, other, rest)
    ]

-- ---- the row of a text more

-- the row after the one that was found: with one more, or the first row of a text that stands for the first time
abbrev pub Follows : ℕ → List ℕ → Option SeenRow → ℕ → Row → Type 0
Follows id text None ply row = row ≡ seen_row id text 1 ply
Follows id text (Some found) ply row =
    (count first : ℕ) → found.count ≡ pos count → count + 1 < 2 ^ 63 → found.first_ply ≡ pos first
    → row ≡ seen_row id text (count + 1) first

module _ {P M E T : Type 0} (rules : GameRules P M E T) (id : ℕ) (old : Game M) (e : Entry M)
    (few : length old.entries ≤ 600) where
  abbrev text : List ℕ
  text = rules.write_position (last_position rules (with_entry old e))

  abbrev before : Texts
  before = texts_of rules old

  abbrev after : Texts
  after = before ++ text ∷ []

  is-row : (row : Row) (count first : ℕ) → row ≡ seen_row id text count first → count ≡ times_in after text
      → FirstAt after first text → IsSeenRow rules id (with_entry old e) text row
  is-row row count first is times place = record {
    there =
        rw (is, times, texts-more rules old (with_entry old e) e refl) (row-has id after first text place);
    text_is = ap (λ r. column r 1) is;
  }

  -- the row that follows the one that was found is that of the game with the entry more
  pub seen-after : (found : Option SeenRow) (row : Row) → IsFound rules id old text found
      → Follows id text found (length old.entries + 1) row → IsSeenRow rules id (with_entry old e) text row
  seen-after None row none is =
      let never = stands-had id before text (λ z h same. none z (record { there = h; text_is = same })) in
      is-row row 1 (length before) (is ∙ ap (seen_row id text 1) (sym (texts-count rules old)))
      (omega (arith, times-new before text, times-none before text never)) (first-new before text never)
  seen-after (Some found) row has is =
      let it = row-had id before (seen_cells found) has.there in
      let row_is = it.is in
      let text_is : it.text ≡ text = cc (has.text_is) in
      let room : times_in before text + 1 < 2 ^ 63 =
      omega (arith, count_by-le-length (bytes_eq text) before, texts-count rules old, few) in
      is-row row (times_in before text + 1) it.ply (is (times_in before text) it.ply (cc) room (cc))
      (sym (times-new before text))
      (first-more before text it.ply text (rw text_is at it.first))

-- the same for any text that is the position's, and any ply that is the entry's
pub seen-next : {P M E T : Type 0} (rules : GameRules P M E T) (id : ℕ) (old : Game M) (e : Entry M) (wanted : List ℕ)
    (ply : ℕ) (found : Option SeenRow) (row : Row)
    → wanted ≡ rules.write_position (last_position rules (with_entry old e)) → length old.entries ≤ 600
    → ply ≡ length old.entries + 1
    → IsFound rules id old wanted found → Follows id wanted found ply row
    → IsSeenRow rules id (with_entry old e) wanted row
seen-next rules id old e wanted ply found row text_is few ply_is has follows =
    rw text_is (seen-after rules id old e few found row (rw text_is at has) (rw (text_is, ply_is) at follows))
