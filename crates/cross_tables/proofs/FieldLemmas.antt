-- The field of an event: entrants, totals, Sonneborn-Berger numbers and the order of places.
use Rattle.std.proofs.Common.{◌≡◌, ◌∙◌, ◌+◌, ◌*◌, ◌<◌, ◌==◌, ℕ, true, false, cond, List, [], ◌∷◌, ◌++◌, length}
use Rattle.std.proofs.Common.{All, get_or, map, refl, sym, ap, arith}
use Rattle.std.specs.Prelude.{if◌then◌else◌}
use Rattle.std.specs.Cmp.{IsStrictWeakOrder}
use Rattle.std.proofs.lemmas.Grind.{common_steps}
use Rattle.std.proofs.lemmas.List.{append-nil}
use Rattle.std.proofs.lemmas.List.Elements.{All-from_get_or, All-get_or, All-map}
use Rattle.std.proofs.lemmas.List.Sorted.{All-permutation, sorted_far, sum_by-IsPermutation}
use Rattle.std.proofs.lemmas.List.FromFn.{filter_of_map_range_with_len_more}
use Rattle.cross_tables.specs.declared.sums.ScoreTotals.{ScoreTotals}
use Rattle.cross_tables.specs.declared.sums.OpponentScore.{OpponentScore}
use Rattle.cross_tables.specs.declared.standings.Standing.{Standing}
use Rattle.cross_tables.specs.declared.field.EventGame.{EventGame}
use Rattle.cross_tables.specs.declared.field.FieldLine.{FieldLine}
use Rattle.cross_tables.specs.Field.{entrants, is_entrant, is_placed_above, line_of, weighted, IsField}
use Rattle.cross_tables.specs.Totals.{AreTotals, shown, times, total, totals}
use Rattle.cross_tables.proofs.Adding.{none-shown, sums-at}
use Rattle.cross_tables.proofs.Ranked.{AreInOrder, alike}

-- ---- the entrants

module _ (games : List EventGame) (before : ℕ) where
  entrants-next : entrants (before + 1) games
      ≡ entrants before games ++ cond (is_entrant games (before + 1)) ((before + 1) ∷ []) []
  entrants-next =
      filter_of_map_range_with_len_more (is_entrant games) (λ n. n + 1) 0 before before (omega arith)

  pub entrants-more : (members after : List ℕ) → members ≡ entrants before games
      → is_entrant games (before + 1) ≡ true → after ≡ members ++ (before + 1) ∷ []
      → after ≡ entrants (before + 1) games
  entrants-more members after is plays grown =
      grown
      ∙ (ap (λ l. l ++ (before + 1) ∷ []) is
      ∙ sym (entrants-next ∙ ap (λ b. entrants before games ++ cond b ((before + 1) ∷ []) []) plays))

  pub entrants-same : (members : List ℕ) → members ≡ entrants before games → is_entrant games (before + 1) ≡ false
      → members ≡ entrants (before + 1) games
  entrants-same members is none =
      is
      ∙ (sym (append-nil (entrants before games))
      ∙ sym (entrants-next ∙ ap (λ b. entrants before games ++ cond b ((before + 1) ∷ []) []) none))

-- ---- the totals of a member

module _ (xs : List Standing) (rows : List OpponentScore) (t : AreTotals xs rows) (m : ℕ) where
  pub totals-at : (i : ℕ) (d : Standing) → i < length xs → (get_or xs i d).member ≡ m
      → (get_or xs i d).sums ≡ totals m rows
  totals-at i d h same = sums-at xs rows t i d h ∙ ap (λ n. totals n rows) same

  none-scored : (part : ScoreTotals → ℕ) → ((member : ℕ) → shown part member xs ≡ total part member rows)
      → times m xs ≡ 0 → 0 ≡ total part m rows
  none-scored part e none = sym (none-shown part m xs none) ∙ e m

  pub totals-none : times m xs ≡ 0
      → ◌≡◌ {A = ScoreTotals} (record { points = 0; wins = 0; draws = 0; losses = 0 }) (totals m rows)
  totals-none none =
      λ k.
      record {
        points = none-scored (λ s. s.points) t.points none k;
        wins = none-scored (λ s. s.wins) t.wins none k;
        draws = none-scored (λ s. s.draws) t.draws none k;
        losses = none-scored (λ s. s.losses) t.losses none k;
      }

-- ---- Sonneborn-Berger numbers

pub weighted-own : (member : ℕ) (rows : List OpponentScore) (row : OpponentScore) (points against : ℕ)
    → (row.member == member) ≡ true → points ≡ row.sums.points → against ≡ total (λ s. s.points) row.opponent rows
    → points * against ≡ weighted member rows row
weighted-own member rows row points against same is theirs =
    (λ i. is i * theirs i)
    ∙ sym (ap (λ b. if b then row.sums.points * total (λ s. s.points) row.opponent rows else 0) same)

-- ---- the order of places

pub above_is_order : IsStrictWeakOrder is_placed_above
above_is_order =
    record {
      one_way = λ x y. grind (arith, common_steps);
      chain = λ x y z. grind (arith, common_steps);
    }

ties-member : (x y : FieldLine) → is_placed_above x y ≡ false → is_placed_above y x ≡ false
    → x.standing.member ≡ y.standing.member
ties-member x y = grind (arith, common_steps)

-- ---- one field

module _ (last : ℕ) (rows : List OpponentScore) (games : List EventGame) where
  abbrev own : FieldLine → Type 0
  own line = line ≡ line_of rows games line.standing.member

  all-own : (lines : List FieldLine) → IsField last rows games lines → All own lines
  all-own lines is =
      let ids = entrants last games in
      All-permutation own (map (line_of rows games) ids) lines is.lines_of
      (All-map own (line_of rows games) ids
      (All-from_get_or (λ m. own (line_of rows games m)) ids 0 (λ i h. refl)))

  in-order : (lines : List FieldLine) → IsField last rows games lines
      → AreInOrder (λ l. l.standing.member) (line_of rows games) is_placed_above ties-member lines
  in-order lines is = record {
    own = λ i d h. All-get_or own lines i d h (all-own lines is);
    far = sorted_far is_placed_above above_is_order lines is.ranked;
  }

  pub one-field : (xs ys : List FieldLine) → IsField last rows games xs → IsField last rows games ys → xs ≡ ys
  one-field xs ys one two =
      alike (λ l. l.standing.member) (line_of rows games) is_placed_above ties-member xs ys (in-order xs one)
      (in-order ys two)
      (λ m. sum_by-IsPermutation (λ l. if l.standing.member == m then 1 else 0) _ xs one.lines_of
      ∙ sym (sum_by-IsPermutation (λ l. if l.standing.member == m then 1 else 0) _ ys two.lines_of))
