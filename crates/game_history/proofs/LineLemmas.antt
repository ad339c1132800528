-- A line that grows at its end: its positions, how often each stands, and when first.
use Rattle.std.proofs.Common.{◌≡◌, ℕ, zero, suc, ◌+◌, ◌≤◌, Bool, cond, List, [], ◌∷◌, ◌++◌, length, get_or, refl}
use Rattle.std.proofs.Common.{sym, ap, ◌∙◌, arith, zero-add, length-append}
use Rattle.std.specs.Prelude.{count_by}
use Rattle.std.proofs.lemmas.List.{take-append-le}
use Rattle.std.proofs.lemmas.List.Sums.{sum_by-append, count_by-le-length}
use Rattle.game_history.specs.Line.{last_position, position_after, positions, FirstAt, times_at}

count_by-more : {X : Type 0} (test : X → Bool) (xs : List X) (x : X)
    → count_by test (xs ++ x ∷ []) ≡ count_by test xs + cond (test x) 1 0
count_by-more test xs x = sum_by-append (λ y. cond (test y) 1 0) xs (x ∷ [])
    ∙ ap (λ n. count_by test xs + n) (zero-add (cond (test x) 1 0))

pub count_by-one : {X : Type 0} (test : X → Bool) (x : X) → count_by test (x ∷ []) ≡ cond (test x) 1 0
count_by-one test x = zero-add (cond (test x) 1 0)

module _ {P M : Type 0} (play : P → M → P) where
  pub length-positions : (p : P) (ms : List M) → length (positions play p ms) ≡ length ms + 1
  length-positions p [] = refl
  length-positions p (m ∷ ms) = let rest = length-positions (play p m) ms in omega arith

  pub last_position-append : (p : P) (ms : List M) (m : M)
      → last_position play p (ms ++ m ∷ []) ≡ play (last_position play p ms) m
  last_position-append p [] m = refl
  last_position-append p (n ∷ ms) m = last_position-append (play p n) ms m

  pub positions-append : (p : P) (ms : List M) (m : M)
      → positions play p (ms ++ m ∷ []) ≡ positions play p ms ++ play (last_position play p ms) m ∷ []
  positions-append p [] m = refl
  positions-append p (n ∷ ms) m = ap (λ ps. p ∷ ps) (positions-append (play p n) ms m)

  -- the positions, by the plies after which they stand
  pub get-positions : (p : P) (ms : List M) (k : ℕ) (d : P) → k ≤ length ms
      → get_or (positions play p ms) k d ≡ position_after play p ms k
  get-positions p [] zero d h = refl
  get-positions p [] (suc k) d h = absurd (omega (arith, h))
  get-positions p (m ∷ ms) zero d h = refl
  get-positions p (m ∷ ms) (suc k) d h = get-positions (play p m) ms k d (omega (arith, h))

  pub after-longer : (start : P) (xs ys : List M) (k : ℕ) → k ≤ length xs
      → position_after play start (xs ++ ys) k ≡ position_after play start xs k
  after-longer start xs ys k h = ap (last_position play start) (take-append-le k xs ys h)

  -- ---- when a position stands first

  pub first-of-none : (p : P) → FirstAt play p [] p 0
  first-of-none p = record { within = omega arith; stands = refl; earliest = λ k h e. omega (arith, h) }

  pub first-longer : (start : P) (xs ys : List M) (p : P) (f : ℕ) → FirstAt play start xs p f
      → FirstAt play start (xs ++ ys) p f
  first-longer start xs ys p f at =
      let within = at.within in
      let long = length-append xs ys in
      record {
        within = omega (arith, within, long);
        stands = after-longer start xs ys f within ∙ at.stands;
        earliest = λ k h e. at.earliest k h (sym (after-longer start xs ys k (omega (arith, within, h))) ∙ e);
      }

  -- ---- how often a position stands

  module _ (same : P → P → Bool) (start : P) (ms : List M) where
    pub times-more : (m : M) (q : P)
        → times_at play same start (ms ++ m ∷ []) q
        ≡ times_at play same start ms q + cond (same (play (last_position play start ms) m) q) 1 0
    times-more m q = ap (count_by (λ p. same p q)) (positions-append start ms m)
        ∙ count_by-more (λ p. same p q) (positions play start ms) (play (last_position play start ms) m)

    pub few-times : (q : P) → times_at play same start ms q ≤ length ms + 1
    few-times q =
        let bound = count_by-le-length (λ p. same p q) (positions play start ms) in
        let many = length-positions start ms in
        omega (arith, bound, many)
