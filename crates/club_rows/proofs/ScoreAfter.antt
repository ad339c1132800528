-- The rows of two players after one more game, from the sums of the rows that were found.
use Rattle.std.proofs.Common.{◌≡◌, ◌≢◌, ℕ, ◌+◌, ◌<◌, ◌≤◌, ◌^◌, List, [], ◌∷◌, ◌++◌, length, Bool, true, false, cond}
use Rattle.std.proofs.Common.{Option, Some, None, pos, refl, ap, sym, subst, ◌∙◌, arith, inl, inr}
use Rattle.std.proofs.Common.{length-append}
use Rattle.std.specs.Prelude.{count_by}
use Rattle.std.proofs.lemmas.Bool.{cases_Bool, cases_lt}
use Rattle.std.proofs.lemmas.List.Sums.{sum_by-append, sum_by-cons, count_by-le-length}
use Rattle.squares.specs.declared.sides.Score.{Score}
use Rattle.store_tables.specs.internal.Cells.{score_cells}
use Rattle.store_tables.specs.declared.rows.ScoreRow.{ScoreRow}
use Rattle.store_tables.specs.Content.{same_key}
use Rattle.club_rows.specs.internal.NextScores.{IsFound, AreNext, Fit, pair_of, pair_cells, gains_of, plus_sums}
use Rattle.club_rows.specs.internal.NextScores.{sums_found}
use Rattle.club_rows.specs.internal.NextScores.{AreChanged, sums_over, row_with, undoing}
use Rattle.club_rows.specs.Scores.{Meeting, same_pair, scores_of, score_row, score_rows, is_win, is_draw, is_loss}
use Rattle.club_rows.specs.Scores.{meetings, own_first, own_second}
use Rattle.club_rows.specs.declared.scores.Pair.{Pair}
use Rattle.club_rows.specs.declared.scores.OwnScore.{OwnScore}
use Rattle.club_rows.specs.declared.scores.ScoreRows.{ScoreRows}
use Rattle.club_rows.proofs.ColumnLemmas.{same-pos}
use Rattle.club_rows.proofs.ScoreRowLemmas.{pair_same, pair_itself, row_in, sums_in, rows_had, rows_has, keys_same}
use Rattle.club_rows.proofs.ScoreRowLemmas.{keys_agree, scores_append, scores_between, scores_none}

sums_row : (other : Pair) (ss : List OwnScore) (row : ScoreRow) → score_cells row ≡ score_row other ss
    → sums_found (Some row) ≡ sums_over ss
sums_row other ss row is = grind arith

-- what was found are the sums of the pair's scores
pub found_sums : (ms : List Meeting) (pair : Pair) (found : Option ScoreRow) → IsFound (score_rows ms) pair found
    → sums_found found ≡ sums_over (scores_of pair ms)
found_sums ms pair None none = ap sums_over
    (sym
    (scores_none pair ms (λ met. none (row_in ms pair) (rows_has ms pair met) (keys_agree pair (sums_in ms pair) []))))
found_sums ms pair (Some row) found =
    let (other, met, is) = rows_had ms (score_cells row) found.0 in
    let one : other ≡ pair = keys_same other pair (sums_in ms other) []
    (subst (λ x. same_key (0 ∷ 1 ∷ 2 ∷ []) x (pair_cells pair) ≡ true) is found.1) in
    sums_row other (scores_of other ms) row is ∙ ap (λ p. sums_over (scores_of p ms)) one

-- ---- one more

module _ (test : OwnScore → Bool) where
  more : (left right : List OwnScore) (own : OwnScore)
      → count_by test (left ++ (own ∷ right)) ≡ count_by test (left ++ right) + cond (test own) 1 0
  more left right own =
      let counts : OwnScore → ℕ = λ s. cond (test s) 1 0 in
      let whole = sum_by-append counts left (own ∷ right) in
      omega (arith, whole, sum_by-cons counts own right, sum_by-append counts left right)

pub gained : (left right : List OwnScore) (own : OwnScore)
    → plus_sums (sums_over (left ++ right)) (gains_of own) ≡ sums_over (left ++ (own ∷ right))
gained left right own =
    grind (arith, more is_win left right own, more is_draw left right own, more is_loss left right own)

-- the row of the sums with one score more
pub next_row : (before new after : List Meeting) (pair : Pair) (own : OwnScore) (found : Option ScoreRow)
    → IsFound (score_rows (before ++ after)) pair found → scores_of pair new ≡ own ∷ []
    → score_cells (row_with pair (plus_sums (sums_found found) (gains_of own))) ≡ row_in (before ++ (new ++ after)) pair
next_row before new after pair own found is one =
    let left = scores_of pair before in
    let right = scores_of pair after in
    let was : sums_found found ≡ sums_over (left ++ right) = found_sums (before ++ after) pair found is
    ∙ ap sums_over (scores_append pair before after) in
    let now : scores_of pair (before ++ (new ++ after)) ≡ left ++ (own ∷ right) = scores_between pair before new after
    ∙ ap (λ ss. left ++ (ss ++ right)) one in
    ap (λ s. score_cells (row_with pair (plus_sums s (gains_of own)))) was
    ∙ (ap (λ s. score_cells (row_with pair s)) (gained left right own) ∙ ap (score_row pair) (sym now))

-- ---- another result

pub changed : (left right : List OwnScore) (old own : OwnScore)
    → plus_sums (plus_sums (sums_over (left ++ (old ∷ right))) (undoing old)) (gains_of own)
    ≡ sums_over (left ++ (own ∷ right))
changed left right old own =
    grind (
      arith,
      more is_win left right old,
      more is_draw left right old,
      more is_loss left right old,
      more is_win left right own,
      more is_draw left right own,
      more is_loss left right own,
    )

-- the row of the sums with another score in the place of one
pub changed_row : (before old new after : List Meeting) (pair : Pair) (one own : OwnScore) (found : Option ScoreRow)
    → IsFound (score_rows (before ++ (old ++ after))) pair found → scores_of pair old ≡ one ∷ []
    → scores_of pair new ≡ own ∷ []
    → score_cells (row_with pair (plus_sums (plus_sums (sums_found found) (undoing one)) (gains_of own)))
    ≡ row_in (before ++ (new ++ after)) pair
changed_row before old new after pair one own found is was_one now_one =
    let left = scores_of pair before in
    let right = scores_of pair after in
    let was : sums_found found ≡ sums_over (left ++ (one ∷ right)) = found_sums (before ++ (old ++ after)) pair found is
    ∙ ap sums_over (scores_between pair before old after ∙ ap (λ ss. left ++ (ss ++ right)) was_one) in
    let now : scores_of pair (before ++ (new ++ after)) ≡ left ++ (own ∷ right) = scores_between pair before new after
    ∙ ap (λ ss. left ++ (ss ++ right)) now_one in
    ap (λ s. score_cells (row_with pair (plus_sums (plus_sums s (undoing one)) (gains_of own)))) was
    ∙ (ap (λ s. score_cells (row_with pair s)) (changed left right one own) ∙ ap (score_row pair) (sym now))

-- ---- sums that do not fit

pub scores_few : (pair : Pair) (ms : List Meeting) → length (scores_of pair ms) ≤ length ms
scores_few pair [] = omega arith
scores_few pair (m ∷ ms) = grind (arith, scores_few pair ms)

pub fit : (ss : List OwnScore) (own : OwnScore) → length ss < 2 ^ 61 → Fit (plus_sums (sums_over ss) (gains_of own))
fit ss own low =
    grind (arith, count_by-le-length is_win ss, count_by-le-length is_draw ss, count_by-le-length is_loss ss)

-- sums that do not fit are those of very many games
pub unfit_many : (ms : List Meeting) (pair : Pair) (own : OwnScore) (found : Option ScoreRow)
    → IsFound (score_rows ms) pair found → (Fit (plus_sums (sums_found found) (gains_of own)) → ⊥) → 2 ^ 61 ≤ length ms
unfit_many ms pair own found is unfit =
    elim (cases_lt (length (scores_of pair ms)) (2 ^ 61)) [
      | inr many ↦ omega (arith, scores_few pair ms, many)
      | inl low ↦ absurd (unfit (rw (found_sums ms pair found is) (fit (scores_of pair ms) own low)))
    ]

rest-few : (test : OwnScore → Bool) (left right : List OwnScore)
    → count_by test (left ++ right) ≤ length left + length right
rest-few test left right =
    let most = count_by-le-length test (left ++ right) in
    let all : length (left ++ right) ≡ length left + length right = simp length-append in
    omega (arith, most, all)

-- what is left of sums without one result fits, and so does another result in its place but after very many games
pub rest_fits : (ss : List OwnScore) (left right : List OwnScore) (one : OwnScore) → ss ≡ left ++ (one ∷ right)
    → length left + length right < 2 ^ 61 → Fit (plus_sums (sums_over ss) (undoing one))
rest_fits ss left right one is low =
    rw is
    (grind (
      arith,
      more is_win left right one,
      more is_draw left right one,
      more is_loss left right one,
      rest-few is_win left right,
      rest-few is_draw left right,
      rest-few is_loss left right,
      low,
    ))

pub changed_fits : (left right : List OwnScore) (one own : OwnScore) → length left + length right < 2 ^ 61
    → Fit (plus_sums (plus_sums (sums_over (left ++ (one ∷ right))) (undoing one)) (gains_of own))
changed_fits left right one own low =
    rw (changed left right one own)
    (grind (
      arith,
      more is_win left right own,
      more is_draw left right own,
      more is_loss left right own,
      rest-few is_win left right,
      rest-few is_draw left right,
      rest-few is_loss left right,
      low,
    ))

-- ---- both players

ways_apart : (event one other : ℕ) → one ≢ other → same_pair (pair_of event one other) (pair_of event other one) ≡ false
ways_apart event one other apart = elim (cases_Bool (same_pair (pair_of event one other) (pair_of event other one))) [
  | inl same ↦
      let turned = ap (λ (p : Pair). p.member) (pair_same (pair_of event one other) (pair_of event other one) same) in
      absurd (apart (same-pos one other turned))
  | inr differ ↦ differ
]

module _ (event first second : ℕ) (score : Option Score) (apart : first ≢ second) where
  abbrev firsts_pair : Pair
  firsts_pair = pair_of event first second

  abbrev seconds_pair : Pair
  seconds_pair = pair_of event second first

  abbrev new : List Meeting
  new = meetings (pos event) (pos first) (pos second) score

  pub of_first : scores_of firsts_pair new ≡ own_first score ∷ []
  of_first = rw (pair_itself firsts_pair, ways_apart event second first (λ e. apart (sym e)))

  pub of_second : scores_of seconds_pair new ≡ own_second score ∷ []
  of_second = rw (ways_apart event first second apart, pair_itself seconds_pair)

  pub next_rows : (firsts seconds : Option ScoreRow) (rows : ScoreRows)
      → rows.first ≡ row_with firsts_pair (plus_sums (sums_found firsts) (gains_of (own_first score)))
      → rows.second ≡ row_with seconds_pair (plus_sums (sums_found seconds) (gains_of (own_second score)))
      → AreNext event first second score firsts seconds rows
  next_rows firsts seconds rows one other before after found = record {
    of_first = ap score_cells one ∙ next_row before new after firsts_pair (own_first score) firsts found.of_first
        of_first;
    of_second = ap score_cells other ∙ next_row before new after seconds_pair (own_second score) seconds found.of_second
        of_second;
  }

module _ (event first second : ℕ) (old new_score : Option Score) (apart : first ≢ second) where
  pub changed_rows : (firsts seconds : Option ScoreRow) (rows : ScoreRows)
      → rows.first ≡ row_with (pair_of event first second)
      (plus_sums (plus_sums (sums_found firsts) (undoing (own_first old))) (gains_of (own_first new_score)))
      → rows.second ≡ row_with (pair_of event second first)
      (plus_sums (plus_sums (sums_found seconds) (undoing (own_second old))) (gains_of (own_second new_score)))
      → AreChanged event first second old new_score firsts seconds rows
  changed_rows firsts seconds rows one other before after found =
      let old_ms = meetings (pos event) (pos first) (pos second) old in
      let new_ms = meetings (pos event) (pos first) (pos second) new_score in
      record {
        of_first = ap score_cells one
            ∙ changed_row before old_ms new_ms after (pair_of event first second) (own_first old)
            (own_first new_score) firsts found.of_first (of_first event first second old apart)
            (of_first event first second new_score apart);
        of_second = ap score_cells other
            ∙ changed_row before old_ms new_ms after (pair_of event second first) (own_second old)
            (own_second new_score) seconds found.of_second (of_second event first second old apart)
            (of_second event first second new_score apart);
      }

  -- the sums of both players with another score do not fit only after very many games
  pub changed_many : (before after : List Meeting) (pair : Pair) (one own : OwnScore) (found : Option ScoreRow)
      → IsFound (score_rows (before ++ (meetings (pos event) (pos first) (pos second) old ++ after))) pair found
      → scores_of pair (meetings (pos event) (pos first) (pos second) old) ≡ one ∷ []
      → (Fit (plus_sums (sums_found found) (undoing one))
      → ¬ Fit (plus_sums (plus_sums (sums_found found) (undoing one)) (gains_of own)))
      → 2 ^ 61 ≤ length before + length after
  changed_many before after pair one own found is was_one unfit =
      let left = scores_of pair before in
      let right = scores_of pair after in
      let old_ms = meetings (pos event) (pos first) (pos second) old in
      let was : sums_found found ≡ sums_over (left ++ (one ∷ right)) =
      found_sums (before ++ (old_ms ++ after)) pair found is
      ∙ ap sums_over (scores_between pair before old_ms after ∙ ap (λ ss. left ++ (ss ++ right)) was_one) in
      elim (cases_lt (length left + length right) (2 ^ 61)) [
        | inr many ↦ omega (arith, scores_few pair before, scores_few pair after, many)
        | inl low ↦
            let rest = rest_fits (left ++ (one ∷ right)) left right one refl low in
            let whole = changed_fits left right one own low in
            absurd (unfit (rw was rest) (rw was whole))
      ]
