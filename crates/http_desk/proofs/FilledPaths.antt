-- A path as a pattern of `matchit` with a part at each of its parameters.
use Rattle.std.proofs.Common.{◌≡◌, ℕ, zero, suc, ◌<◌, List, [], ◌∷◌, ◌++◌, length, take, drop}
use Rattle.std.proofs.Common.{Bool, true, false, cond, ◌&&◌, ◌==◌, ltb, if◌then◌else◌, refl, ap, arith, true≢false}
use Rattle.std.proofs.lemmas.List.{take-append-drop}
use Rattle.std.proofs.lemmas.Bool.Decides.{nat_tests}
use Rattle.matchit.specs.Rows.{param_token}
use Rattle.matchit.specs.Seek.{has_slash, segment, slash}

-- parts that are counted from the second on
abbrev pub later : (ℕ → List ℕ) → ℕ → List ℕ
later parts i = parts (suc i)

-- a part before others
abbrev pub earlier : List ℕ → (ℕ → List ℕ) → ℕ → List ℕ
earlier part parts zero = part
earlier part parts (suc i) = parts i

-- a pattern with these parts in the places of its parameters
abbrev pub filled : List ℕ → (ℕ → List ℕ) → List ℕ
filled [] parts = []
filled (x ∷ rest) parts = if x == param_token then parts 0 ++ filled rest (later parts) else x ∷ filled rest parts

abbrev pub HaveNoSlash : (ℕ → List ℕ) → Type 0
HaveNoSlash parts = (i : ℕ) → has_slash (parts i) ≡ false

-- the path is the pattern with parts that have no slash
pub record IsFilled (pattern path : List ℕ) : Type 0 where
  pub parts : ℕ → List ℕ
  pub whole : HaveNoSlash parts
  pub same : path ≡ filled pattern parts

-- what follows a parameter is a slash, or nothing
abbrev pub ends_part : List ℕ → Bool
ends_part [] = true
ends_part (x ∷ rest) = x == slash

-- each parameter is all that stands between a byte and a slash or the end, and all else is ASCII
abbrev pub is_plain : List ℕ → Bool
is_plain [] = true
is_plain (x ∷ rest) = (if x == param_token then ends_part rest else ltb x 128) && is_plain rest

-- neither of the two holds
pub cond_none : (v w : Bool) → cond v true w ≡ false → (v ≡ false) × (w ≡ false)
cond_none true w is = absurd (true≢false is)
cond_none false w is = (refl, is)

pub nothing_filled : IsFilled [] []
nothing_filled = record { parts = λ _. []; whole = λ _. refl; same = refl }

-- a part before a path that is filled
pub with_part : (rest part path : List ℕ) → has_slash part ≡ false → IsFilled rest path
    → IsFilled (param_token ∷ rest) (part ++ path)
with_part rest part path one f = record {
  parts = earlier part f.parts;
  whole = λ i. elim i as (λ k. has_slash (earlier part f.parts k) ≡ false) [ zero ↦ one | suc i ↦ f.whole i ];
  same = ap (λ (p : List ℕ). part ++ p) f.same;
}

-- a byte before a path that is filled: one that is no byte can stand only for a parameter
pub with_byte : (b : ℕ) (rest path : List ℕ) → IsFilled rest path → IsFilled (b ∷ rest) (b ∷ path)
with_byte b rest path f = by (b == param_token) refl
  where
    by : (v : Bool) → (b == param_token) ≡ v → IsFilled (b ∷ rest) (b ∷ path)
    by true is =
        let e : b ≡ param_token = grind (arith, nat_tests) in
        rw e (with_part rest (param_token ∷ []) path refl f)
    by false is = record {
      parts = f.parts;
      whole = f.whole;
      same = rw is (ap (λ (p : List ℕ). b ∷ p) f.same);
    }

-- less than a segment has no slash
pub no_slash-take : (path : List ℕ) (n : ℕ) → n < length (segment path) → has_slash (take n path) ≡ false
no_slash-take [] n is = absurd (omega arith)
no_slash-take (b ∷ path) zero is = refl
no_slash-take (b ∷ path) (suc n) is =
    let rest = no_slash-take path n in
    grind (arith, nat_tests, rest)

-- some bytes that have no slash, before a path that is filled
pub with_front : (rest path : List ℕ) (n : ℕ) → has_slash (take n path) ≡ false → IsFilled rest (drop n path)
    → IsFilled (param_token ∷ rest) path
with_front rest path n one f =
    rw (take-append-drop n path) at (with_part rest (take n path) (drop n path) one f)
