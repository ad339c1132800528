-- The route that `matchit` finds is one whose pattern the path fills.
use Rattle.std.proofs.Common.{◌≡◌, ◌∙◌, ◌⊎◌, ℕ, zero, suc, ◌-◌, ◌<◌, List, [], ◌∷◌, length, take, drop}
use Rattle.std.proofs.Common.{Bool, true, false, cond, ◌==◌, ltb, Option, Some, None, refl, ap, arith}
use Rattle.std.proofs.Common.{inl, inr, take_all, subst}
use Rattle.std.proofs.lemmas.Bool.{and_parts}
use Rattle.std.proofs.lemmas.Bool.Decides.{nat_tests}
use Rattle.matchit.specs.Rows.{RowsOf, param_token, catch_all_token}
use Rattle.matchit.specs.Seek.{has_slash, segment, own, step, or_else, better, longest_from, longest_suffix}
use Rattle.matchit.specs.Seek.{with_suffix, same_text, param_step, seek}
use Rattle.http_desk.proofs.FilledPaths.{is_plain, IsFilled, nothing_filled, with_byte, with_front, no_slash-take}

-- the longest suffix is shorter than the segment, where there is one
IsShort : List ℕ → List ℕ → Type 0
IsShort segment suffix = (length suffix ≡ 0) ⊎ (length suffix < length segment)

short-better : (seg best suffix : List ℕ) → IsShort seg best → IsShort seg (better seg best suffix)
unfolding IsShort
short-better seg best suffix short = grind (arith, nat_tests)

module _ {K : Type 0} where
  -- the row is one of the rows
  abbrev pub Among : List ℕ → K → RowsOf K → Type 0
  Among pattern key [] = ⊥
  Among pattern key ((other, kept) ∷ rows) = ((other ≡ pattern) × (kept ≡ key)) ⊎ Among pattern key rows

  -- a route with that key, whose pattern the path fills if it is a plain one
  pub record IsFound (rows : RowsOf K) (path : List ℕ) (key : K) : Type 0 where
    pub pattern : List ℕ
    pub among : Among pattern key rows
    pub fills : is_plain pattern ≡ true → IsFilled pattern path

  among-own : (rows : RowsOf K) (key : K) → own rows ≡ Some key → Among [] key rows
  among-own [] key is = cc
  among-own (([], kept) ∷ rows) key is =
      let same : kept ≡ key = cc in
      inl (refl, same)
  among-own ((x ∷ other, kept) ∷ rows) key is = inr (among-own rows key is)

  -- of a row that is kept or left out, and those after it
  among_if : {G : Type 0} (v : Bool) (other pattern : List ℕ) (kept key : K) (after : RowsOf K)
      → Among pattern key (cond v ((other, kept) ∷ after) after)
      → (v ≡ true → (other ≡ pattern) × (kept ≡ key) → G) → (Among pattern key after → G) → G
  among_if true other pattern kept key after (inl same) one more = one refl same
  among_if true other pattern kept key after (inr is) one more = more is
  among_if false other pattern kept key after is one more = more is

  among-step : (b : ℕ) (pattern : List ℕ) (key : K) (rows : RowsOf K) → Among pattern key (step b rows)
      → Among (b ∷ pattern) key rows
  among-step b pattern key [] is = is
  among-step b pattern key (([], kept) ∷ rows) is = inr (among-step b pattern key rows is)
  among-step b pattern key ((x ∷ other, kept) ∷ rows) is =
      among_if (x == b) other pattern kept key (step b rows) is
      (λ e same. let one : x ≡ b = grind (arith, nat_tests) in inl (λ i. one i ∷ same.0 i, same.1))
      (λ more. inr (among-step b pattern key rows more))

  among-suffix : (suffix pattern : List ℕ) (key : K) (rows : RowsOf K) → Among pattern key (with_suffix suffix rows)
      → Among pattern key rows
  among-suffix suffix pattern key [] is = is
  among-suffix suffix pattern key ((other, kept) ∷ rows) is =
      among_if (same_text (segment other) suffix) other pattern kept key (with_suffix suffix rows) is
      (λ e same. inl same) (λ more. inr (among-suffix suffix pattern key rows more))

  short-longest : (seg best : List ℕ) (rows : RowsOf K) → IsShort seg best → IsShort seg (longest_from seg best rows)
  short-longest seg best [] short = short
  short-longest seg best ((other, kept) ∷ rows) short =
      short-longest seg (better seg best (segment other)) rows (short-better seg best (segment other) short)

  either : {G : Type 0} (a b : Option K) (key : K) → or_else a b ≡ Some key → (a ≡ Some key → G)
      → (b ≡ Some key → G) → G
  either None b key is first second = second is
  either (Some kept) b key is first second = first is

  -- what a parameter takes has no slash, and the rows after it are those of the step
  record Takes (rows : RowsOf K) (path : List ℕ) (after : RowsOf K) (n : ℕ) : Type 0 where
    some : 0 < n
    whole : has_slash (take n path) ≡ false
    kept : (pattern : List ℕ) (key : K) → Among pattern key after → Among pattern key rows

  -- a parameter takes nothing, or what it may
  abbrev Taken : RowsOf K → List ℕ → Type 0
  Taken rows path = ((param_step rows path).1 ≡ []) ⊎ Takes rows path (param_step rows path).1 (param_step rows path).0

  taken : (rows : RowsOf K) (b : ℕ) (path : List ℕ) → Taken rows (b ∷ path)
  unfolding param_step IsShort
  taken rows b path =
      by (ltb 0 (length (longest_suffix (segment (b ∷ path)) rows))) (has_slash (b ∷ path)) refl refl
    where
      by : (v w : Bool) → ltb 0 (length (longest_suffix (segment (b ∷ path)) rows)) ≡ v → has_slash (b ∷ path) ≡ w
          → Taken rows (b ∷ path)
      by true w is has =
          let some : 0 < length (longest_suffix (segment (b ∷ path)) rows) = grind (arith, nat_tests) in
          let short : length (longest_suffix (segment (b ∷ path)) rows) < length (segment (b ∷ path)) =
          omega (arith, some, short-longest (segment (b ∷ path)) [] rows (inl refl)) in
          rw is (inr (record {
            some = omega arith;
            whole = no_slash-take (b ∷ path) _ (omega arith);
            kept = λ pattern key. among-suffix (longest_suffix (segment (b ∷ path)) rows) pattern key rows;
          }))
      by false true is has = rw (is, has) (inl refl)
      by false false is has = rw (is, has) (inr (record {
        some = omega arith;
        whole = ap has_slash (take_all (length (b ∷ path)) (b ∷ path) (omega arith)) ∙ has;
        kept = λ pattern key more. more;
      }))

  by_byte : (b : ℕ) (rows : RowsOf K) (path : List ℕ) (key : K) → IsFound (step b rows) path key
      → IsFound rows (b ∷ path) key
  by_byte b rows path key f = record {
    pattern = b ∷ f.pattern;
    among = among-step b f.pattern key rows f.among;
    fills = λ plain. with_byte b f.pattern path (f.fills (and_parts _ _ plain).1);
  }

  by_part : (b : ℕ) (rows after : RowsOf K) (path : List ℕ) (key : K) (n : ℕ)
      → (after ≡ []) ⊎ Takes (step param_token rows) (b ∷ path) after n
      → IsFound after (drop (n - 1) path) key → IsFound rows (b ∷ path) key
  by_part b rows after path key n (inl none) f = absurd (rw none at f.among)
  by_part b rows after path key n (inr takes) f =
      let less : suc (n - 1) ≡ n = omega (arith, takes.some) in
      record {
        pattern = param_token ∷ f.pattern;
        among = among-step param_token f.pattern key rows (takes.kept f.pattern key f.among);
        fills = λ plain. with_front f.pattern (b ∷ path) n takes.whole
            (subst (λ k. IsFilled f.pattern (drop k (b ∷ path))) less (f.fills (and_parts _ _ plain).1));
      }

  by_rest : (b : ℕ) (rows : RowsOf K) (path : List ℕ) (key : K) → own (step catch_all_token rows) ≡ Some key
      → IsFound rows (b ∷ path) key
  by_rest b rows path key is = record {
    pattern = catch_all_token ∷ [];
    among = among-step catch_all_token [] key rows (among-own (step catch_all_token rows) key is);
    fills = λ plain. cc;
  }

  pub sought : (skip : ℕ) (rows : RowsOf K) (path : List ℕ) (key : K) → seek skip rows path ≡ Some key
      → IsFound rows (drop skip path) key
  unfolding seek
  sought zero rows [] key is =
      record { pattern = []; among = among-own rows key is; fills = λ _. nothing_filled }
  sought (suc skip) rows [] key is =
      record { pattern = []; among = among-own rows key is; fills = λ _. nothing_filled }
  sought (suc skip) rows (b ∷ path) key is = sought skip rows path key is
  sought zero rows (b ∷ path) key is = either _ _ key is
      (λ found. by_byte b rows path key (sought 0 (step b rows) path key found))
      (λ rest. either _ _ key rest
      (λ found. by_part b rows _ path key _ (taken (step param_token rows) b path) (sought _ _ path key found))
      (λ found. by_rest b rows path key found))
