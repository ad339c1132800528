-- The listed moves are those that pass, in order.
use Rattle.std.proofs.Common.{◌≡◌, ℕ, zero, suc, ◌+◌, ◌<◌, ◌≤◌, Bool, true, false, cond, inl, inr, List, [], ◌∷◌, ◌++◌}
use Rattle.std.proofs.Common.{refl, sym, ap, ◌∙◌, subst, arith, rules}
use Rattle.std.specs.Ordering.{nat_cmp, ordering_then}
use Rattle.std.specs.Cmp.{nat_cmp_is}
use Rattle.std.specs.Cmp.Lexicographic.{slice_cmp}
use Rattle.std.specs.List.{flat_map, range_with_len, AllByRecursion}
use Rattle.std.specs.List.Sorted.{IsStrictlySortedBy}
use Rattle.std.specs.declared.cmp.Ordering.TheVariants.{Less, Equal}
use Rattle.std.proofs.lemmas.List.{append-nil}
use Rattle.squares.specs.declared.shogi.piece.HandKind.{HandKind}
use Rattle.squares.specs.declared.shogi.piece.HandKind.TheVariants as in_hand
use Rattle.squares.specs.declared.shogi.moves.SMove.{SMove}
use Rattle.squares.specs.declared.shogi.moves.SMove.TheVariants.{Step, Drop}
use Rattle.squares.specs.internal.In.{In, In-left, In-right, In-cases, In-flat_map}
use Rattle.shogi_moves.specs.Search.{all_squares}
use Rattle.shogi_moves.specs.Computed.{all_kinds}
use Rattle.shogi_moves.specs.Listing.{place, key_of, move_cmp}
use Rattle.shogi_moves.specs.internal.Listing.{if_passes, steps_between, steps_from, all_steps}
use Rattle.shogi_moves.specs.internal.Listing.{drops_on, drops_of, all_drops, all_moves}
use Rattle.shogi_moves.proofs.TruthLemmas.{In-all_squares}

-- a list in order before another, each of whose elements comes after all of the first
all-append : {A : Type 0} {P : A → Type 0} (xs ys : List A) → AllByRecursion P xs → ((y : A) → In y ys → P y)
    → AllByRecursion P (xs ++ ys)
all-append [] [] h k = tt
all-append {A} {P} [] (y ∷ ys) h k = (k y (inl refl), all-append {A = A} {P = P} [] ys tt (λ z m. k z (inr m)))
all-append (x ∷ xs) ys h k = (h.0, all-append xs ys h.1 k)

sorted-append : (xs ys : List SMove) → IsStrictlySortedBy move_cmp xs → IsStrictlySortedBy move_cmp ys
    → ((a b : SMove) → In a xs → In b ys → move_cmp a b ≡ Less) → IsStrictlySortedBy move_cmp (xs ++ ys)
unfolding IsStrictlySortedBy
sorted-append [] ys s t less = t
sorted-append (x ∷ xs) ys s t less =
    (all-append xs ys s.0 (λ y h. less x y (inl refl) h), sorted-append xs ys s.1 t (λ a b h k. less a b (inr h) k))

-- a key begins so
abbrev pub Begins : List ℕ → List ℕ → Type 0
Begins [] key = Unit {0}
Begins (n ∷ ns) [] = ⊥
Begins (n ∷ ns) (k ∷ key) = (k ≡ n) × Begins ns key

begins-itself : (key : List ℕ) → Begins key key
begins-itself [] = tt
begins-itself (k ∷ key) = (refl, begins-itself key)

begins-before : (prefix : List ℕ) (n : ℕ) (key : List ℕ) → Begins (prefix ++ n ∷ []) key → Begins prefix key
begins-before [] n key h = tt
begins-before (p ∷ prefix) n [] h = absurd h
begins-before (p ∷ prefix) n (k ∷ key) h = (h.0, begins-before prefix n key h.1)

-- the first numbers of two keys that differ decide
less-by : (prefix : List ℕ) (m n : ℕ) (xs ys : List ℕ) → m < n → Begins (prefix ++ m ∷ []) xs
    → Begins (prefix ++ n ∷ []) ys → slice_cmp nat_cmp xs ys ≡ Less
less-by [] m n [] ys less h k = absurd h
less-by [] m n (x ∷ xs) [] less h k = absurd k
less-by [] m n (x ∷ xs) (y ∷ ys) less h k =
    ap (λ o. ordering_then o (slice_cmp nat_cmp xs ys)) (sym (nat_cmp_is x y Less (omega (arith, less, h.0, k.0))))
less-by (p ∷ prefix) m n [] ys less h k = absurd h
less-by (p ∷ prefix) m n (x ∷ xs) [] less h k = absurd k
less-by (p ∷ prefix) m n (x ∷ xs) (y ∷ ys) less h k =
    ap (λ o. ordering_then o (slice_cmp nat_cmp xs ys)) (sym (nat_cmp_is x y Equal (h.0 ∙ sym k.0)))
    ∙ less-by prefix m n xs ys less h.1 k.1

-- the numbers of elements rise along a list, from that one on
abbrev Rises : {B : Type 0} → (B → ℕ) → ℕ → List B → Type 0
Rises number low [] = Unit {0}
Rises number low (x ∷ xs) = (low ≤ number x) × Rises number (number x + 1) xs

range-rises : (a n : ℕ) → Rises (λ m. m) a (range_with_len a n)
range-rises a zero = tt
range-rises a (suc n) = (omega arith, range-rises (a + 1) n)

squares-rise : Rises (λ m. m) 0 all_squares
unfolding all_squares
squares-rise = range-rises 0 81

pub In-all_kinds : (kind : HandKind) → In kind all_kinds
In-all_kinds in_hand.Rook = inl refl
In-all_kinds _ = search (rules, inl, inr) depth 12

-- the squares that a move names are on the board
abbrev pub NamesSquares : SMove → Type 0
NamesSquares (Step from to promote) = (from < 81) × (to < 81)
NamesSquares (Drop kind to) = to < 81

module _ (test : SMove → Bool) where
  -- moves in order that pass, and whose keys are so
  pub record Ordered (P : List ℕ → Type 0) (ms : List SMove) : Type 0 where
    pub sorted : IsStrictlySortedBy move_cmp ms
    pub members : (m : SMove) → In m ms → P (key_of m) × (test m ≡ true)

  -- keys begin so, and go on with that number or a greater one
  record GoesOn (prefix : List ℕ) (low : ℕ) (key : List ℕ) : Type 0 where
    next : ℕ
    above : low ≤ next
    begins : Begins (prefix ++ next ∷ []) key

  -- lists in order one after another, as their next numbers rise
  module _ {B : Type 0} (prefix : List ℕ) (number : B → ℕ) (f : B → List SMove)
      (each : (x : B) → Ordered (Begins (prefix ++ number x ∷ [])) (f x)) where
    all-ordered : (low : ℕ) (xs : List B) → Rises number low xs → Ordered (GoesOn prefix low) (flat_map f xs)
    unfolding IsStrictlySortedBy
    all-ordered low [] rises = record { sorted = tt; members = λ m h. absurd h }
    all-ordered low (x ∷ xs) rises =
        let first = each x in
        let rest = all-ordered (number x + 1) xs rises.1 in
        record {
          sorted =
              sorted-append (f x) (flat_map f xs) first.sorted rest.sorted
              (λ a b h k.
              let w = (rest.members b k).0 in
              less-by prefix (number x) w.next (key_of a) (key_of b) (omega (arith, w.above)) (first.members a h).0
              w.begins);
          members =
              λ m h. elim (In-cases m (f x) (flat_map f xs) h) [
                | inl k ↦ let w = first.members m k in
                    (record { next = number x; above = rises.0; begins = w.0 }, w.1)
                | inr k ↦ let w = rest.members m k in (
                  record {
                    next = w.0.next;
                    above = omega (arith, rises.0, w.0.above);
                    begins = w.0.begins;
                  },
                  w.1,
                )
              ];
        }

    ordered : (xs : List B) → Rises number 0 xs → Ordered (Begins prefix) (flat_map f xs)
    ordered xs rises =
        let all = all-ordered 0 xs rises in
        record {
          sorted = all.sorted;
          members =
              λ m h. let w = all.members m h in (begins-before prefix w.0.next (key_of m) w.0.begins, w.1);
        }

  -- one list after another
  ordered-both : (prefix : List ℕ) (xs ys : List SMove) → Ordered (Begins (prefix ++ 0 ∷ [])) xs
      → Ordered (Begins (prefix ++ 1 ∷ [])) ys → Ordered (Begins prefix) (xs ++ ys)
  ordered-both prefix xs ys first second =
      subst (λ zs. Ordered (Begins prefix) (xs ++ zs)) (append-nil ys)
      (ordered prefix (λ b. cond b 1 0) (λ b. cond b ys xs) (elim [ true ↦ second | false ↦ first ])
      (false ∷ true ∷ []) (omega arith, (omega arith, tt)))

  one-ordered : (m : SMove) → Ordered (Begins (key_of m)) (if_passes test m)
  unfolding if_passes IsStrictlySortedBy
  one-ordered m =
      elim (test m) as (λ c. test m ≡ c → Ordered (Begins (key_of m)) (cond c (m ∷ []) [])) [
        | true ↦ λ e. record {
          sorted = (tt, tt);
          members = λ a h. elim h [
            | inl same ↦ subst (λ a. Begins (key_of m) (key_of a) × (test a ≡ true)) same (begins-itself (key_of m), e)
            | inr never ↦ absurd never
          ];
        }
        | false ↦ λ _. record { sorted = tt; members = λ a h. absurd h }
      ] refl

  between-ordered : (from to : ℕ) → Ordered (Begins (0 ∷ from ∷ to ∷ [])) (steps_between test from to)
  unfolding steps_between
  between-ordered from to =
      ordered-both (0 ∷ from ∷ to ∷ []) (if_passes test (Step from to false)) (if_passes test (Step from to true))
      (one-ordered (Step from to false)) (one-ordered (Step from to true))

  from-ordered : (from : ℕ) → Ordered (Begins (0 ∷ from ∷ [])) (steps_from test from)
  unfolding steps_from
  from-ordered from =
      ordered (0 ∷ from ∷ []) (λ to. to) (steps_between test from) (between-ordered from) all_squares squares-rise

  drops_of-ordered : (kind : HandKind) → Ordered (Begins (1 ∷ place kind ∷ [])) (drops_of test kind)
  unfolding drops_of drops_on
  drops_of-ordered kind =
      ordered (1 ∷ place kind ∷ []) (λ to. to) (λ to. if_passes test (Drop kind to)) (λ to. one-ordered (Drop kind to))
      all_squares squares-rise

  pub moves-ordered : Ordered (Begins []) (all_moves test)
  unfolding all_moves all_steps all_drops
  moves-ordered =
      ordered-both [] (all_steps test) (all_drops test)
      (ordered (0 ∷ []) (λ from. from) (steps_from test) from-ordered all_squares squares-rise)
      (ordered (1 ∷ []) place (drops_of test) drops_of-ordered all_kinds
      (omega arith, (omega arith, (omega arith, (omega arith, (omega arith, (omega arith, (omega arith, tt))))))))

  if_passes-in : (m : SMove) → test m ≡ true → In m (if_passes test m)
  unfolding if_passes
  if_passes-in m e = subst (λ c. In m (cond c (m ∷ []) [])) (sym e) (inl refl)

  between-in : (from to : ℕ) (promote : Bool) → test (Step from to promote) ≡ true
      → In (Step from to promote) (steps_between test from to)
  unfolding steps_between
  between-in from to false e = In-left (Step from to false) (if_passes test (Step from to false))
      (if_passes test (Step from to true)) (if_passes-in (Step from to false) e)
  between-in from to true e = In-right (Step from to true) (if_passes test (Step from to false))
      (if_passes test (Step from to true)) (if_passes-in (Step from to true) e)

  pub passing-moves : (m : SMove) → NamesSquares m → test m ≡ true → In m (all_moves test)
  unfolding all_moves all_steps steps_from all_drops drops_of drops_on
  passing-moves (Step from to promote) on e =
      In-left (Step from to promote) (all_steps test) (all_drops test)
      (In-flat_map (steps_from test) (Step from to promote) from all_squares (In-all_squares from on.0)
      (In-flat_map (steps_between test from) (Step from to promote) to all_squares (In-all_squares to on.1)
      (between-in from to promote e)))
  passing-moves (Drop kind to) on e =
      In-right (Drop kind to) (all_steps test) (all_drops test)
      (In-flat_map (drops_of test) (Drop kind to) kind all_kinds (In-all_kinds kind)
      (In-flat_map (drops_on test kind) (Drop kind to) to all_squares (In-all_squares to on)
      (if_passes-in (Drop kind to) e)))
