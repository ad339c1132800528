-- Sums over standings and rows: at a place, in another order, and as one row is added.
use Rattle.std.proofs.Common.{◌≡◌, ◌∙◌, ◌+◌, ◌<◌, ◌≤◌, ◌==◌, ℕ, Bool, true, false}
use Rattle.std.proofs.Common.{None, List, [], ◌∷◌, ◌++◌, length, get_or, set, take, refl, sym, subst, arith}
use Rattle.std.proofs.Common.{length-set}
use Rattle.std.specs.Prelude.{if◌then◌else◌}
use Rattle.std.specs.List.{count_by, position, position_or_len, remove}
use Rattle.std.specs.List.Sorted.{IsPermutation}
use Rattle.std.proofs.lemmas.Grind.{common_steps}
use Rattle.std.proofs.lemmas.List.{get_or-set_same}
use Rattle.std.proofs.lemmas.List.Sums.{sum_by-cons, sum_by-set, sum_by-remove, sum_by_push, sum_by-take-le}
use Rattle.std.proofs.lemmas.List.Sums.{get_or-le-sum_by}
use Rattle.std.proofs.lemmas.List.Sorted.{sum_by-IsPermutation}
use Rattle.cross_tables.specs.declared.sums.ScoreTotals.{ScoreTotals}
use Rattle.cross_tables.specs.declared.sums.OpponentScore.{OpponentScore}
use Rattle.cross_tables.specs.declared.standings.Standing.{Standing}
use Rattle.cross_tables.specs.Totals.{AreTotals, IsEachOnce, total, totals, shown, times}
use Rattle.cross_tables.specs.internal.Totals.{Fit, plus_sums, raised}

-- what an element adds for a member
abbrev pub adds : Bool → ℕ → ℕ
adds same n = if same then n else 0

adds-plus : (same : Bool) (m n : ℕ) → adds same (m + n) ≡ adds same m + adds same n
adds-plus true m n = refl
adds-plus false m n = refl

-- ---- a member in a list

times-cons : (m : ℕ) (x : Standing) (xs : List Standing) → times m (x ∷ xs) ≡ adds (x.member == m) 1 + times m xs
times-cons m x xs = sum_by-cons (λ s. if s.member == m then 1 else 0) x xs

stands-here : (m : ℕ) (xs : List Standing) (i : ℕ) (d : Standing) → i < length xs → (get_or xs i d).member ≡ m
    → 0 < times m xs
stands-here m xs i d h is =
    grind (arith, common_steps, get_or-le-sum_by (λ s. if s.member == m then 1 else 0) xs i d h)

pub none-shown : (part : ScoreTotals → ℕ) (m : ℕ) (xs : List Standing) → times m xs ≡ 0 → shown part m xs ≡ 0
none-shown part m [] h = refl
none-shown part m (x ∷ xs) h = grind (
  arith,
  common_steps,
  none-shown part m xs,
  times-cons m x xs,
  sum_by-cons (λ s. if s.member == m then part s.sums else 0) x xs,
)

none-counted : {X : Type 0} (p : X → Bool) (xs : List X) → length xs ≤ position_or_len p xs → count_by p xs ≡ 0
none-counted p [] h = refl
none-counted p (x ∷ xs) h = grind (arith, common_steps, none-counted p xs, sum_by-cons (λ y. if p y then 1 else 0) x xs)

pub position-none : {X : Type 0} (p : X → Bool) (xs : List X) → position p xs ≡ None → count_by p xs ≡ 0
position-none p xs e = none-counted p xs (grind (arith, common_steps))

-- ---- at a place

module _ (xs : List Standing) (rows : List OpponentScore) (t : AreTotals xs rows) (i : ℕ) (d : Standing)
    (h : i < length xs) where
  part-at : (part : ScoreTotals → ℕ) → ((member : ℕ) → shown part member xs ≡ total part member rows)
      → part (get_or xs i d).sums ≡ total part (get_or xs i d).member rows
  part-at part e =
      let m = (get_or xs i d).member in
      grind (
        arith,
        common_steps,
        t.once m,
        e m,
        none-shown part m (remove xs i),
        sum_by-remove (λ s. if s.member == m then 1 else 0) xs i d h,
        sum_by-remove (λ s. if s.member == m then part s.sums else 0) xs i d h,
      )

  pub sums-at : (get_or xs i d).sums ≡ totals (get_or xs i d).member rows
  sums-at =
      λ k.
      record {
        points = part-at (λ s. s.points) t.points k;
        wins = part-at (λ s. s.wins) t.wins k;
        draws = part-at (λ s. s.draws) t.draws k;
        losses = part-at (λ s. s.losses) t.losses k;
      }

-- what does not fit in a beginning does not fit in the whole
pub Fit-take : (rows : List OpponentScore) (i m : ℕ) → Fit (totals m rows) → Fit (totals m (take i rows))
Fit-take rows i m fit =
    record {
      points = omega (arith, sum_by-take-le (λ r. if r.member == m then r.sums.points else 0) rows i, fit.points);
      wins = omega (arith, sum_by-take-le (λ r. if r.member == m then r.sums.wins else 0) rows i, fit.wins);
      draws = omega (arith, sum_by-take-le (λ r. if r.member == m then r.sums.draws else 0) rows i, fit.draws);
      losses = omega (arith, sum_by-take-le (λ r. if r.member == m then r.sums.losses else 0) rows i, fit.losses);
    }

-- ---- in another order

module _ (xs ys : List Standing) (rows : List OpponentScore) (same : IsPermutation xs ys) (t : AreTotals xs rows) where
  shown-same : (part : ScoreTotals → ℕ) (member : ℕ) → shown part member ys ≡ shown part member xs
  shown-same part member = sum_by-IsPermutation (λ s. if s.member == member then part s.sums else 0) xs ys same

  pub AreTotals-permutation : AreTotals ys rows
  AreTotals-permutation =
      record {
        once = λ member. omega (arith, shown-same (λ _. 1) member, t.once member);
        listed = λ member h. omega (arith, shown-same (λ _. 1) member, t.listed member h);
        scored = λ member h. t.scored member (omega (arith, shown-same (λ _. 1) member, h));
        points = λ member. shown-same (λ s. s.points) member ∙ t.points member;
        wins = λ member. shown-same (λ s. s.wins) member ∙ t.wins member;
        draws = λ member. shown-same (λ s. s.draws) member ∙ t.draws member;
        losses = λ member. shown-same (λ s. s.losses) member ∙ t.losses member;
      }

-- ---- with one row more

-- standings with the row's sums, those of its member being among them
module _ (xs ys : List Standing) (rows : List OpponentScore) (row : OpponentScore) (t : AreTotals xs rows) (once : IsEachOnce ys)
    (stand : (m : ℕ) → (0 < times m xs + adds (row.member == m) 1 → 0 < times m ys)
    × (0 < times m ys → 0 < times m xs + adds (row.member == m) 1))
    (grown : (part : ScoreTotals → ℕ) → ((a b : ScoreTotals) → part (plus_sums a b) ≡ part a + part b) → (m : ℕ)
    → shown part m ys ≡ shown part m xs + adds (row.member == m) (part row.sums)) where
  total-more : (part : ScoreTotals → ℕ) (m : ℕ)
      → total part m (rows ++ row ∷ []) ≡ total part m rows + adds (row.member == m) (part row.sums)
  total-more part m = sum_by_push (λ r. if r.member == m then part r.sums else 0) rows row

  part-more : (part : ScoreTotals → ℕ) → ((a b : ScoreTotals) → part (plus_sums a b) ≡ part a + part b)
      → ((m : ℕ) → shown part m xs ≡ total part m rows) → (m : ℕ)
      → shown part m ys ≡ total part m (rows ++ row ∷ [])
  part-more part e before m = omega (arith, grown part e m, before m, total-more part m)

  AreTotals-more : AreTotals ys (rows ++ row ∷ [])
  AreTotals-more =
      record {
        once = once;
        listed = λ m h. (stand m).0 (grind (arith, total-more (λ _. 1) m, t.listed m, h));
        scored = λ m h. let was = (stand m).1 h in grind (arith, total-more (λ _. 1) m, t.scored m, was);
        points = part-more (λ s. s.points) (λ _ _. refl) t.points;
        wins = part-more (λ s. s.wins) (λ _ _. refl) t.wins;
        draws = part-more (λ s. s.draws) (λ _ _. refl) t.draws;
        losses = part-more (λ s. s.losses) (λ _ _. refl) t.losses;
      }

-- a member who stands
module _ (xs : List Standing) (rows : List OpponentScore) (row : OpponentScore) (i : ℕ) (d : Standing) (h : i < length xs)
    (same : (get_or xs i d).member ≡ row.member) (t : AreTotals xs rows) where
  abbrev now : Standing
  now = raised (get_or xs i d) row.sums

  shown-raised : (part : ScoreTotals → ℕ) (more : ℕ) → part now.sums ≡ part (get_or xs i d).sums + more → (m : ℕ)
      → shown part m (set xs i now) ≡ shown part m xs + adds (row.member == m) more
  shown-raised part more e m =
      grind (arith, common_steps, e, same, sum_by-set (λ s. if s.member == m then part s.sums else 0) xs i now d h)

  times-raised : (m : ℕ) → times m (set xs i now) ≡ times m xs
  times-raised m = omega (arith, sum_by-set (λ s. if s.member == m then 1 else 0) xs i now d h)

  pub AreTotals-raised : AreTotals (set xs i now) (rows ++ row ∷ [])
  AreTotals-raised =
      AreTotals-more xs (set xs i now) rows row t (λ m. omega (arith, times-raised m, t.once m))
      (λ m. (
        λ more. grind (arith, common_steps, times-raised m, more, stands-here m xs i d h),
        λ is. omega (arith, times-raised m, is),
      )) (λ part e m. shown-raised part (part row.sums) (e _ _) m)

  -- what is kept for the row's member, with the row, is no more than the totals with the row
  pub Fit-raised : Fit (totals row.member (rows ++ row ∷ [])) → Fit now.sums
  Fit-raised fit =
      let is = subst (λ s. s.sums ≡ totals s.member (rows ++ row ∷ [])) (get_or-set_same xs i now d h)
      (sums-at (set xs i now) (rows ++ row ∷ []) AreTotals-raised i d (omega (arith, h, length-set xs i now))) in
      subst Fit (sym is) (subst (λ m. Fit (totals m (rows ++ row ∷ []))) (sym same) fit)

-- a member who does not stand yet
module _ (xs : List Standing) (rows : List OpponentScore) (row : OpponentScore) (absent : times row.member xs ≡ 0)
    (t : AreTotals xs rows) where
  abbrev entered : List Standing
  entered = xs ++ record { member = row.member; sums = row.sums } ∷ []

  shown-more : (part : ScoreTotals → ℕ) (m : ℕ)
      → shown part m entered ≡ shown part m xs + adds (row.member == m) (part row.sums)
  shown-more part m = sum_by_push (λ s. if s.member == m then part s.sums else 0) xs _

  pub AreTotals-entered : AreTotals entered (rows ++ row ∷ [])
  AreTotals-entered =
      AreTotals-more xs entered rows row t
      (λ m. grind (arith, common_steps, shown-more (λ _. 1) m, t.once m, absent))
      (λ m. (λ h. omega (arith, shown-more (λ _. 1) m, h), λ h. omega (arith, shown-more (λ _. 1) m, h)))
      (λ part e m. shown-more part m)
