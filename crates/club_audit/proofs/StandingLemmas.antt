-- The sums of all pairs as games are counted, and when they and the rows of a table clear one another.
use Rattle.std.proofs.Common.{◌≡◌, ℕ, zero, suc, ◌+◌, ◌<◌, ◌≤◌, ◌^◌, List, [], ◌∷◌, ◌++◌, length, map, drop, get_or}
use Rattle.std.proofs.Common.{true, false, cond, Option, Some, None, refl, ap, sym, subst, ◌∙◌, arith}
use Rattle.std.proofs.Common.{inl, inr, append_assoc, length-append}
use Rattle.std.specs.Prelude.{is_some, slice_get, string_bytes}
use Rattle.std.specs.Option.{option_map}
use Rattle.std.specs.HashMap.{HashMap}
use Rattle.std.specs.Map.{lookup}
use Rattle.std.proofs.lemmas.Bool.{cases_Bool}
use Rattle.std.proofs.lemmas.Grind.{common_steps}
use Rattle.std.proofs.lemmas.List.{append-nil, drop_all, drop_more}
use Rattle.std.proofs.lemmas.Option.{get_or_from_slice_get, slice_get_within}
use Rattle.sqlite.specs.Order.{Row}
use Rattle.sqlite_rules.specs.Lists.{Has}
use Rattle.sqlite_rules.proofs.ListLemmas.{has_got}
use Rattle.squares.specs.declared.sides.Score.{Score}
use Rattle.squares.specs.Sides.{score_text}
use Rattle.store_tables.specs.internal.Cells.{score_cells}
use Rattle.store_tables.specs.declared.rows.GameTableRow.{GameTableRow}
use Rattle.store_tables.specs.declared.rows.ScoreRow.{ScoreRow}
use Rattle.club_rows.specs.internal.NextScores.{Fit, gains_of, plus_sums, sums_over, sums_found, row_with}
use Rattle.club_rows.specs.Scores.{Meeting, same_pair, scores_of, score_rows, own_first, own_second}
use Rattle.club_rows.specs.EachOnce.{AreEachOnce}
use Rattle.club_audit.specs.internal.Standings.{AreStandings, AreTold, Clears, Tells, met_if, some_sums, sums_or_none}
use Rattle.club_audit.specs.internal.Standings.{without}
use Rattle.club_rows.specs.internal.Pairs.{firsts_pair, pair_in, seconds_pair, sums_at}
use Rattle.club_rows.specs.declared.scores.Pair.{Pair}
use Rattle.club_rows.specs.declared.scores.OwnScore.{OwnScore}
use Rattle.club_rows.specs.declared.scores.ScoreSums.{ScoreSums}
use Rattle.club_rows.proofs.Proved.{pair_same, pair_itself, pairs_of, rows_had, rows_has, scores_append, gained, fit}
use Rattle.club_rows.proofs.Proved.{scores_few}
use Rattle.club_audit.proofs.KeyLemmas.{no-entries}
use Rattle.club_audit.proofs.PlacedLemmas.{had-at}

-- ---- one score more

sums_or : (ss : List OwnScore) → sums_or_none (some_sums ss) ≡ sums_over ss
sums_or [] = refl
sums_or (s ∷ ss) = refl

some_last : (ss : List OwnScore) (own : OwnScore) → some_sums (ss ++ own ∷ []) ≡ Some (sums_over (ss ++ own ∷ []))
some_last [] own = refl
some_last (s ∷ ss) own = refl

abbrev meeting : Pair → OwnScore → Meeting
meeting pair own = record { pair = pair; score = own }

own_score : (pair : Pair) (own : OwnScore) → scores_of pair (meeting pair own ∷ []) ≡ own ∷ []
own_score pair own = rw (pair_itself pair)

others_score : (pair other : Pair) (own : OwnScore) → same_pair pair other ≡ false
    → scores_of other (meeting pair own ∷ []) ≡ []
others_score pair other own apart = rw apart

module _ {S : Type 0} (old : HashMap Pair ScoreSums S) (pair : Pair) (own : OwnScore) (ms : List Meeting)
    (are : AreStandings old ms) where
  -- what the pair has by then
  by_then : sums_or_none (sums_at old pair) ≡ sums_over (scores_of pair ms)
  by_then = ap sums_or_none (are pair) ∙ sums_or (scores_of pair ms)

  pub score_added : (new : HashMap Pair ScoreSums S) (sums : ScoreSums)
      → sums ≡ plus_sums (sums_or_none (sums_at old pair)) (gains_of own)
      → ((q : Pair) → sums_at new q ≡ cond (same_pair pair q) (Some sums) (sums_at old q))
      → AreStandings new (ms ++ meeting pair own ∷ [])
  score_added new sums sums_is adds q =
      let more : sums ≡ sums_over (scores_of pair ms ++ own ∷ []) =
      cc (by_then, append-nil (scores_of pair ms), gained (scores_of pair ms) [] own) in
      elim (cases_Bool (same_pair pair q)) [
        | inl same ↦ grind (
          arith,
          common_steps,
          adds q,
          pair_same pair q same,
          own_score pair own,
          more,
          scores_append pair ms (meeting pair own ∷ []),
          some_last (scores_of pair ms) own,
        )
        | inr apart ↦ grind (
          arith,
          common_steps,
          adds q,
          are q,
          scores_append q ms (meeting pair own ∷ []),
          others_score pair q own apart,
          append-nil (scores_of q ms),
        )
      ]

  -- few scores fit
  pub score_fits : length ms < 2 ^ 61 → Fit (plus_sums (sums_or_none (sums_at old pair)) (gains_of own))
  score_fits low =
      let few = scores_few pair ms in
      subst (λ s. Fit (plus_sums s (gains_of own))) (sym by_then)
      (fit (scores_of pair ms) own (omega (arith, few, low)))

-- ---- one game more

-- what a row of a game that has ended tells
pub told_some : (row : GameTableRow) (own : List Meeting) (score : Option Score) → Tells row own
    → is_some row.end ≡ true
    → ((other : Option Score) → option_map (λ s. string_bytes s) row.result ≡ option_map score_text other
    → score ≡ other) → own ≡ meeting (firsts_pair row) (own_first score)
    ∷ meeting (seconds_pair row) (own_second score) ∷ []
told_some row own score told ended only =
    told.met ∙ λ i. met_if (ended i) row.event row.first row.second (sym (only told.score told.result) i)

-- the row of a running game tells nothing
pub told_none : (row : GameTableRow) (own : List Meeting) → Tells row own → is_some row.end ≡ false → own ≡ []
told_none row own told running = told.met ∙ ap (λ b. met_if b row.event row.first row.second told.score) running

module _ {S : Type 0} (old mid new : HashMap Pair ScoreSums S) (ms : List Meeting) (one other : Meeting) where
  pub both_added : (AreStandings old ms → length ms < 2 ^ 61 → AreStandings mid (ms ++ one ∷ []))
      → (AreStandings mid (ms ++ one ∷ []) → length (ms ++ one ∷ []) < 2 ^ 61
      → AreStandings new ((ms ++ one ∷ []) ++ other ∷ []))
      → AreStandings old ms → length (ms ++ (one ∷ other ∷ [])) < 2 ^ 61 → AreStandings new (ms ++ (one ∷ other ∷ []))
  both_added first second are low =
      let longer : length (ms ++ (one ∷ other ∷ [])) ≡ length ms + 2 = length-append ms (one ∷ other ∷ []) in
      let long : length (ms ++ one ∷ []) ≡ length ms + 1 = length-append ms (one ∷ []) in
      subst (AreStandings new) (append_assoc ms (one ∷ []) (other ∷ []))
      (second (first are (omega (arith, longer, low))) (omega (arith, longer, long, low)))

-- ---- the games of a list

-- so many of the games were counted
pub record AreCounted {S : Type 0} (standings : HashMap Pair ScoreSums S) (games : List GameTableRow) (index : ℕ)
    (ms : List Meeting) : Type 0 where
  pub before : List Meeting
  pub after : List Meeting
  pub parts : ms ≡ before ++ after
  pub left : AreTold (drop index games) after
  pub counted : AreStandings standings before

dropped_next : {A : Type 0} (xs : List A) (i : ℕ) (x : A) → slice_get xs i ≡ Some x → drop i xs ≡ x ∷ drop (i + 1) xs
dropped_next xs i x at = cc (drop_more xs i x (slice_get_within xs i x at), get_or_from_slice_get xs i x x at)

pub counted_start : {S : Type 0} (standings : HashMap Pair ScoreSums S) (games : List GameTableRow) (ms : List Meeting)
    → standings.entries ≡ [] → AreTold games ms → AreCounted standings games 0 ms
counted_start standings games ms none told =
    record { before = []; after = ms; parts = refl; left = told; counted = λ p. ap (lookup (same_pair p)) none }

pub counted_next : {S : Type 0} (old new : HashMap Pair ScoreSums S) (games : List GameTableRow) (i : ℕ) (game : GameTableRow)
    (ms : List Meeting) → slice_get games i ≡ Some game → length ms < 2 ^ 61
    → ((before own : List Meeting) → AreStandings old before → Tells game own → length (before ++ own) < 2 ^ 61
    → AreStandings new (before ++ own))
    → AreCounted old games i ms → AreCounted new games (i + 1) ms
counted_next old new games i game ms at low adds was =
    let left : AreTold (game ∷ drop (i + 1) games) was.after =
    subst (λ rows. AreTold rows was.after) (dropped_next games i game at) was.left in
    let (own, rest, told, more, parts) = left in
    let whole : ms ≡ (was.before ++ own) ++ rest = cc (append_assoc was.before own rest) in
    let long = ap length whole ∙ length-append (was.before ++ own) rest in
    record {
      before = was.before ++ own;
      after = rest;
      parts = whole;
      left = more;
      counted = adds was.before own was.counted told (omega (arith, low, long));
    }

pub counted_all : {S : Type 0} (standings : HashMap Pair ScoreSums S) (games : List GameTableRow) (i : ℕ) (ms : List Meeting)
    → length games ≤ i → AreCounted standings games i ms → AreStandings standings ms
counted_all standings games i ms past was =
    let none : was.after ≡ [] = subst (λ rows. AreTold rows was.after) (drop_all i games past) was.left in
    subst (AreStandings standings) (cc (append-nil was.before)) was.counted

-- ---- rows and sums that clear one another

-- the sums matter alone
pub clears_alike : (f g : Pair → Option ScoreSums) → ((p : Pair) → f p ≡ g p) → (rows : List ScoreRow) → Clears f rows
    → Clears g rows
clears_alike f g same [] none = λ p. sym (same p) ∙ none p
clears_alike f g same (row ∷ rows) clears = (
  sym (same (pair_in row)) ∙ clears.0,
  clears_alike (without (pair_in row) f) (without (pair_in row) g)
      (λ p. ap (cond (same_pair (pair_in row) p) None) (same p)) rows clears.1,
)

-- the rows that are left clear the sums that are left exactly where all clear all
pub record IsLeft (sums left : Pair → Option ScoreSums) (rows : List ScoreRow) (index : ℕ) : Type 0 where
  pub on : Clears sums rows → Clears left (drop index rows)
  pub back : Clears left (drop index rows) → Clears sums rows

module _ (sums f : Pair → Option ScoreSums) (rows : List ScoreRow) (i : ℕ) (was : IsLeft sums f rows i)
    (within : i < length rows) (pair : Pair) (any : ScoreRow) (pair_is : pair ≡ pair_in (get_or rows i any)) where
  abbrev this_row : ScoreRow
  this_row = get_or rows i any

  next : drop i rows ≡ this_row ∷ drop (i + 1) rows
  next = drop_more rows i any within

  -- the row has its sums, and those after it clear the others
  opened : Clears f (drop i rows) → (f (pair_in this_row) ≡ Some (sums_found (Some this_row)))
      × Clears (without (pair_in this_row) f) (drop (i + 1) rows)
  opened = subst (Clears f) next

  -- it takes its sums
  pub left_next : (g : Pair → Option ScoreSums) (own : ScoreSums) → f pair ≡ Some own → own ≡ sums_found (Some this_row)
      → ((p : Pair) → g p ≡ cond (same_pair pair p) None (f p)) → IsLeft sums g rows (i + 1)
  left_next g own had same takes = record {
    on = λ all. clears_alike (without (pair_in this_row) f) g (λ p. sym (taken p)) (drop (i + 1) rows)
        (opened (was.on all)).1;
    back = λ rest. was.back (subst (Clears f) (sym next) (
      sym (ap f pair_is) ∙ (had ∙ ap Some same),
      clears_alike g (without (pair_in this_row) f) taken (drop (i + 1) rows)
          rest,
    ));
  }
    where
      taken : (p : Pair) → g p ≡ without (pair_in this_row) f p
      taken p = takes p ∙ ap (λ x. cond (same_pair x p) None (f p)) pair_is

  -- a row without sums, or with others, clears nothing
  pub left_none : f pair ≡ None → Clears sums rows → ⊥
  left_none none all = let has = (opened (was.on all)).0 in cc

module _ (sums f : Pair → Option ScoreSums) (rows : List ScoreRow) (i : ℕ) (was : IsLeft sums f rows i) where
  -- all are cleared where nothing is left in the end
  pub left_end : length rows ≤ i → (((p : Pair) → f p ≡ None) → Clears sums rows)
      × (Clears sums rows → (p : Pair) → f p ≡ None)
  left_end past = (
    λ none. was.back (subst (Clears f) (sym (drop_all i rows past)) none),
    λ all. subst (Clears f) (drop_all i rows past) (was.on all),
  )

pub none_empty : {S : Type 0} (standings : HashMap Pair ScoreSums S) → ((p : Pair) → sums_at standings p ≡ None)
    → length standings.entries ≡ 0
none_empty standings none = no-entries same_pair (λ (p : Pair). p) pair_itself standings.entries none

-- the rows of sums
abbrev IsSumRow : (Pair → Option ScoreSums) → Row → Type 0
IsSumRow sums z = (p : Pair) × (s : ScoreSums) × (sums p ≡ Some s) × (z ≡ score_cells (row_with p s))

cells_told : (row : ScoreRow) (p : Pair) (s : ScoreSums) → score_cells row ≡ score_cells (row_with p s)
    → (pair_in row ≡ p) × (sums_found (Some row) ≡ s)
cells_told row p s is =
    let e : row.event ≡ p.event = cc in
    let m : row.member ≡ p.member = cc in
    let o : row.opponent ≡ p.opponent = cc in
    let a : row.points ≡ s.points = cc in
    let b : row.wins ≡ s.wins = cc in
    let c : row.draws ≡ s.draws = cc in
    let d : row.losses ≡ s.losses = cc in (
      λ i. record { event = e i; member = m i; opponent = o i },
      λ i. record { points = a i; wins = b i; draws = c i; losses = d i },
    )

without_other : (p q : Pair) (sums : Pair → Option ScoreSums) → same_pair p q ≡ false → without p sums q ≡ sums q
without_other p q sums apart = ap (λ b. cond b None (sums q)) apart

-- another's sums are there with and without it
without_had : (p q : Pair) (s : ScoreSums) (sums : Pair → Option ScoreSums) → without p sums q ≡ Some s → (same_pair p q ≡ false)
    × (sums q ≡ Some s)
without_had p q s sums at = (grind (arith, common_steps), grind (arith, common_steps))

not_same : (p q : Pair) → same_pair p q ≡ false → p ≡ q → ⊥
not_same p q apart is = let itself = pair_itself p in cc

-- the rows of one pair's sums are one
one_row : (sums : Pair → Option ScoreSums) (p q : Pair) (s t : ScoreSums) → p ≡ q → sums p ≡ Some s → sums q ≡ Some t
    → score_cells (row_with p s) ≡ score_cells (row_with q t)
one_row sums p q s t same one two = cc

-- ---- sums that are cleared have these rows, each once

cleared_there : (rows : List ScoreRow) (sums : Pair → Option ScoreSums) → Clears sums rows → (z : Row)
    → Has (map score_cells rows) z → IsSumRow sums z
cleared_there [] sums clears z h = absurd h
cleared_there (row ∷ rows) sums clears z (inl is) = (pair_in row, sums_found (Some row), clears.0, is)
cleared_there (row ∷ rows) sums clears z (inr h) =
    let (p, s, at, is) = cleared_there rows (without (pair_in row) sums) clears.1 z h in
    (p, s, (without_had (pair_in row) p s sums at).1, is)

cleared_back : (rows : List ScoreRow) (sums : Pair → Option ScoreSums) → Clears sums rows → (p : Pair) (s : ScoreSums)
    → sums p ≡ Some s → Has (map score_cells rows) (score_cells (row_with p s))
cleared_back [] sums none p s at = let clash = none p in cc
cleared_back (row ∷ rows) sums clears p s at = elim (cases_Bool (same_pair (pair_in row) p)) [
  | inl same ↦
      inl (sym (one_row sums (pair_in row) p (sums_found (Some row)) s (pair_same (pair_in row) p same) clears.0 at))
  | inr apart ↦
      inr (cleared_back rows (without (pair_in row) sums) clears.1 p s (without_other (pair_in row) p sums apart ∙ at))
]

not_again : (row : ScoreRow) (rows : List ScoreRow) (sums : Pair → Option ScoreSums) → Clears sums (row ∷ rows) → (z : Row)
    → Some (score_cells row) ≡ Some z → Has (map score_cells rows) z → ⊥
not_again row rows sums clears z at h =
    let (p, s, there, is) = cleared_there rows (without (pair_in row) sums) clears.1 z h in
    not_same (pair_in row) p (without_had (pair_in row) p s sums there).0 (cells_told row p s (cc)).0

cleared_once : (rows : List ScoreRow) (sums : Pair → Option ScoreSums) → Clears sums rows → (i j : ℕ) (z : Row)
    → slice_get (map score_cells rows) i ≡ Some z → slice_get (map score_cells rows) j ≡ Some z → i ≡ j
cleared_once [] sums clears i j z at also = cc
cleared_once (row ∷ rows) sums clears zero zero z at also = refl
cleared_once (row ∷ rows) sums clears zero (suc j) z at also =
    absurd (not_again row rows sums clears z at (has_got (map score_cells rows) j z also))
cleared_once (row ∷ rows) sums clears (suc i) zero z at also =
    absurd (not_again row rows sums clears z also (has_got (map score_cells rows) i z at))
cleared_once (row ∷ rows) sums clears (suc i) (suc j) z at also =
    ap suc (cleared_once rows (without (pair_in row) sums) clears.1 i j z at also)

-- ---- and rows that are these, each once, clear them

none_or : (o : Option ScoreSums) → ((s : ScoreSums) → o ≡ Some s → ⊥) → o ≡ None
none_or None none = refl
none_or (Some s) none = absurd (none s refl)

clear : (rows : List ScoreRow) (sums : Pair → Option ScoreSums)
    → ((z : Row) → Has (map score_cells rows) z → IsSumRow sums z)
    → ((p : Pair) (s : ScoreSums) → sums p ≡ Some s → Has (map score_cells rows) (score_cells (row_with p s)))
    → ((i j : ℕ) (z : Row) → slice_get (map score_cells rows) i ≡ Some z → slice_get (map score_cells rows) j ≡ Some z
    → i ≡ j)
    → Clears sums rows
clear [] sums there back once = λ p. none_or (sums p) (λ s at. back p s at)
clear (row ∷ rows) sums there back once =
    let (p, s, at, is) = there (score_cells row) (inl refl) in
    let (pair_is, sums_is) = cells_told row p s is in
    let here : sums (pair_in row) ≡ Some (sums_found (Some row)) = cc in (
      here,
      clear rows (without (pair_in row) sums)
          (λ z h. let (q, t, there_at, z_is) = there z (inr h) in
          (q, t, without_other (pair_in row) q sums (other q t z there_at z_is h here) ∙ there_at, z_is))
          (λ q t left. let (apart, had) = without_had (pair_in row) q t sums left in elim (back q t had) [
            | inl same ↦ absurd (not_same (pair_in row) q apart (cells_told row q t (sym same)).0)
            | inr has ↦ has
          ])
          (λ i j z one two. let e : suc i ≡ suc j = once (suc i) (suc j) z one two in cc),
    )
  where
    other : (q : Pair) (t : ScoreSums) (z : Row) → sums q ≡ Some t → z ≡ score_cells (row_with q t)
        → Has (map score_cells rows) z → sums (pair_in row) ≡ Some (sums_found (Some row))
        → same_pair (pair_in row) q ≡ false
    other q t z at z_is h here = elim (cases_Bool (same_pair (pair_in row) q)) [
      | inr apart ↦ apart
      | inl same ↦
          let again =
          one_row sums (pair_in row) q (sums_found (Some row)) t (pair_same (pair_in row) q same) here at in
          let (j, has_at) = had-at (map score_cells rows) z h in
          let e : zero ≡ suc j = once zero (suc j) z (cc) has_at in
          cc
    ]

-- ---- the rows of meetings

module _ (ms : List Meeting) where
  abbrev sums_by : Pair → Option ScoreSums
  sums_by p = some_sums (scores_of p ms)

  -- who met has sums
  met_some : (ns : List Meeting) (p : Pair) → Has (pairs_of ns) p
      → some_sums (scores_of p ns) ≡ Some (sums_over (scores_of p ns))
  met_some [] p met = absurd met
  met_some (n ∷ ns) p (inl is) = rw (is, pair_itself n.pair) refl
  met_some (n ∷ ns) p (inr met) = elim (cases_Bool (same_pair n.pair p)) [
    | inl same ↦ rw same refl
    | inr apart ↦ rw apart (met_some ns p met)
  ]

  -- and who has some met
  some_met : (ns : List Meeting) (p : Pair) (s : ScoreSums) → some_sums (scores_of p ns) ≡ Some s → Has (pairs_of ns) p
  some_met [] p s some = cc
  some_met (n ∷ ns) p s some = elim (cases_Bool (same_pair n.pair p)) [
    | inl same ↦ inl (sym (pair_same n.pair p same))
    | inr apart ↦ inr (some_met ns p s (rw apart at some))
  ]

  row_there : (z : Row) → Has (score_rows ms) z → IsSumRow sums_by z
  row_there z h = let (p, met, is) = rows_had ms z h in (p, sums_over (scores_of p ms), met_some ms p met, is)

  row_back : (z : Row) → IsSumRow sums_by z → Has (score_rows ms) z
  row_back z of =
      let (p, s, at, is) = of in
      let met = some_met ms p s at in
      let some = met_some ms p met in
      subst (Has (score_rows ms)) (cc) (rows_has ms p met)

  pub cleared : (rows : List ScoreRow) → Clears sums_by rows → AreEachOnce (map score_cells rows) (score_rows ms)
  cleared rows clears = record {
    same = record {
      there = λ z h. row_back z (cleared_there rows sums_by clears z h);
      back = λ z h. let (p, s, at, is) = row_there z h in
          subst (Has (map score_cells rows)) (sym is) (cleared_back rows sums_by clears p s at);
    };
    once = cleared_once rows sums_by clears;
  }

  pub clearing : (rows : List ScoreRow) → AreEachOnce (map score_cells rows) (score_rows ms) → Clears sums_by rows
  clearing rows are = clear rows sums_by
      (λ z h. row_there z (are.same.there z h))
      (λ p s at. are.same.back (score_cells (row_with p s)) (row_back (score_cells (row_with p s)) (p, s, at, refl)))
      are.once
