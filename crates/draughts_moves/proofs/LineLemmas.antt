-- Lines up to the first piece on them, and the jumps along them.
use Rattle.std.proofs.Common.{◌≡◌, ℕ, zero, suc, ◌+◌, ◌≤◌, Bool, true, false, cond, not, ◌&&◌, nat_eq, inl, inr, Option}
use Rattle.std.proofs.Common.{Some, None, List, [], ◌∷◌, ◌++◌, length, refl, sym, ap, ◌∙◌, arith}
use Rattle.std.specs.Prelude.{map, is_none, is_some, nat_lt, fold, max}
use Rattle.std.specs.List.{find, list_any, range_with_len}
use Rattle.std.specs.Option.{option_map_or}
use Rattle.std.specs.FinSet as set
use Rattle.std.proofs.lemmas.Bool.{cases_Bool, cases_eq, and_parts, or_parts, or_cases, not-true, false≢true, lt-ltb}
use Rattle.std.proofs.lemmas.List.Folds.{list_any-append}
use Rattle.squares.specs.declared.draughts.direction.Direction.{Direction}
use Rattle.squares.specs.declared.draughts.direction.Direction.TheVariants.{UpLeft, UpRight, DownLeft, DownRight}
use Rattle.squares.specs.declared.draughts.piece.DPiece.{DPiece}
use Rattle.squares.specs.internal.DraughtsMarks.{nat_eq_same, nat_eq_other, nat_eq-same}
use Rattle.squares.specs.DraughtsSets.{Squares}
use Rattle.squares.specs.DraughtsGeometry.{neighbor, step, line, ray}
use Rattle.squares.specs.internal.DraughtsGeometry.{OnBoard, line-step, line-edge}
use Rattle.squares.specs.internal.DraughtsOnBoard.{ray-off}
use Rattle.squares.specs.internal.In.{list_any-finds}
use Rattle.squares.proofs.Proved.{ends_within, ray-ends, ends-next, line-ends}
use Rattle.draughts_moves.specs.Capture.{Cells, AllClear}
use Rattle.draughts_moves.specs.Search.{clear_front, is_prey, king_jumps, man_jumps, line_jumps, jumps, greatest}
use Rattle.draughts_moves.specs.internal.Search.{takes}
use Rattle.draughts_moves.proofs.Basics.{option_cases, one_of, list_any-four}
use Rattle.draughts_moves.proofs.Prey.{In-board}
use Rattle.draughts_moves.proofs.RouteLemmas.{greatest-jumps}

pub some-is_none : {A : Type 0} (o : Option A) → is_some o ≡ true → is_none o ≡ false
some-is_none None e = cc
some-is_none (Some a) e = refl

not_some-none : {A : Type 0} (o : Option A) → is_some o ≡ false → o ≡ None
not_some-none None e = refl
not_some-none (Some a) e = cc

pub not_some-is_none : {A : Type 0} (o : Option A) → is_some o ≡ false → is_none o ≡ true
not_some-is_none o e = ap is_none (not_some-none o e)

-- the test of two numbers has no order
pub turned : (a n : ℕ) → nat_eq a n ≡ nat_eq n a
turned a n = elim (cases_eq a n) [
  | inl e ↦ nat_eq_same a n e ∙ sym (nat_eq_same n a (sym e))
  | inr d ↦ nat_eq_other a n d ∙ sym (nat_eq_other n a (λ e. d (sym e)))
]

-- whether a square is of a list
abbrev pub is_in : ℕ → List ℕ → Bool
is_in n ms = list_any (λ m. nat_eq m n) ms

-- whether no square of a list is there twice
abbrev pub distinct : List ℕ → Bool
distinct [] = true
distinct (n ∷ ns) = not (is_in n ns) && distinct ns

-- this is computed, for each line: it does not come back to a square of it
never_twice : (d : Direction) → list_any (λ m. not (distinct (m ∷ ray d m))) (range_with_len 1 50) ≡ false
unfolding step neighbor line ray
never_twice UpLeft = refl
never_twice UpRight = refl
never_twice DownLeft = refl
never_twice DownRight = refl

pub ray-distinct : (d : Direction) (n : ℕ) → OnBoard n → distinct (n ∷ ray d n) ≡ true
ray-distinct d n on = elim (cases_Bool (distinct (n ∷ ray d n))) [
  | inl e ↦ e
  | inr e ↦ absurd (false≢true (sym (never_twice d) ∙ list_any-finds (λ m. not (distinct (m ∷ ray d m)))
      (range_with_len 1 50) n (In-board n on) (ap not e)))
]

-- a square of the front of a list is not of the rest
pub not_in_both : (n : ℕ) (before rest : List ℕ) → distinct (before ++ rest) ≡ true → is_in n before ≡ true
    → is_in n rest ≡ false
not_in_both n [] rest apart here = absurd (false≢true here)
not_in_both n (m ∷ before) rest apart here =
    let w = and_parts (not (is_in m (before ++ rest))) (distinct (before ++ rest)) apart in
    elim (or_cases (nat_eq m n) (is_in n before) here) [
      | inl same ↦
          let none : is_in n (before ++ rest) ≡ false = rw (nat_eq-same m n same) at (not-true _ w.0) in
          (or_parts (is_in n before) (is_in n rest) (sym (list_any-append (λ k. nat_eq k n) before rest) ∙ none)).1
      | inr more ↦ not_in_both n before rest w.1 more
    ]

-- whether a list has any jump
abbrev pub any : List (ℕ × ℕ) → Bool
any xs = nat_lt 0 (length xs)

any-cons : (x : ℕ × ℕ) (xs : List (ℕ × ℕ)) → any (x ∷ xs) ≡ true
any-cons x xs = lt-ltb 0 (length (x ∷ xs)) (omega arith)

any-one : (c : Bool) (x : ℕ × ℕ) → any (cond c (x ∷ []) []) ≡ c
any-one true x = refl
any-one false x = refl

any-is : (xs : List (ℕ × ℕ)) → any xs ≡ list_any (λ x. true) xs
any-is [] = refl
any-is (x ∷ xs) = any-cons x xs

any-none : (xs : List (ℕ × ℕ)) → any xs ≡ false → xs ≡ []
any-none [] e = refl
any-none (x ∷ xs) e = let f = any-cons x xs in cc

module _ (b : Cells) (p : DPiece) (t : Squares) where
  -- there is a jump if there is one in some direction
  pub any-jumps : (s : ℕ) → any (jumps b p t s) ≡ one_of (λ d. any (line_jumps b p t (ray d s)))
  unfolding jumps
  any-jumps s = any-is _ ∙ list_any-four (λ x. true) (λ d. line_jumps b p t (ray d s))
      ∙ (λ i. one_of (λ d. sym (any-is (line_jumps b p t (ray d s))) i))

  -- where there is no jump, none is taken
  pub greatest-none : (s : ℕ) → any (jumps b p t s) ≡ false → greatest b p t s ≡ 0
  greatest-none s none = greatest-jumps b p t s
      ∙ ap (fold (λ m j. max m (greatest b p (set.insert t j.0) j.1 + 1)) 0) (any-none (jumps b p t s) none)

  module _ (d : Direction) where
    -- a man's jumps over a square, by the square behind it
    abbrev pub man_over : ℕ → Option ℕ → List (ℕ × ℕ)
    man_over over behind = cond (is_prey b p t over)
        (option_map_or (λ to. cond (is_none (b to)) ((over, to) ∷ []) []) behind []) []

    pub man_by_steps : (n : ℕ) → man_jumps b p t (ray d n)
        ≡ option_map_or (λ over. man_over over (step d over)) (step d n) []
    unfolding ray
    man_by_steps n = elim (option_cases (step d n)) [
      | inl e ↦ rw (line-edge 9 d n e, e)
      | inr w ↦
          let over = w.0 in
          rw (line-step 9 8 d n over w.1 refl, w.1)
          (elim (option_cases (step d over)) [
            | inl e ↦ rw (line-edge 8 d over e, e)
                (elim (cases_Bool (is_prey b p t over)) [ inl f ↦ rw f | inr f ↦ rw f ])
            | inr v ↦ rw (line-step 8 7 d over v.0 v.1 refl, v.1)
                (elim (cases_Bool (is_prey b p t over)) [ inl f ↦ rw f | inr f ↦ rw f ])
          ])
    ]

    pub man-takes : (n over : ℕ) → step d n ≡ Some over → any (man_jumps b p t (ray d n)) ≡ takes b p t d over
    man-takes n over e = rw (man_by_steps n, e) (elim (cases_Bool (is_prey b p t over)) [
      | inl f ↦ rw f (elim (option_cases (step d over))
          [ inl g ↦ rw g | inr w ↦ rw w.1 (any-one (is_none (b w.0)) (over, w.0)) ])
      | inr f ↦ rw f
    ])

    -- a king has a landing behind what it takes, if the next square is empty
    any-behind : (v : ℕ) → any (map (λ l. (v, l)) (clear_front b (ray d v)))
        ≡ option_map_or (λ l. is_none (b l)) (step d v) false
    unfolding ray
    any-behind v = elim (option_cases (step d v)) [
      | inl e ↦ rw (line-edge 9 d v e, e)
      | inr w ↦ rw (line-step 9 8 d v w.0 w.1 refl, w.1) (elim (cases_Bool (is_none (b w.0)))
          [ inl e ↦ rw e (any-cons (v, w.0) _) | inr e ↦ rw e ])
    ]

find-passes : (test : ℕ → Bool) (v : ℕ) (xs : List ℕ) → find test xs ≡ Some v → test v ≡ true
find-passes test v [] e = cc
find-passes test v (x ∷ xs) e = elim (cases_Bool (test x)) [
  | inl here ↦ let f = rw here at e in let same : x ≡ v = cc in sym (ap test same) ∙ here
  | inr past ↦ find-passes test v xs (rw past at e)
]

-- Of a board the set of the squares where something stands, and a line.
module _ (b : Cells) (d : Direction) (of : Squares) (are : (n : ℕ) → set.contains of n ≡ is_some (b n)) where
  abbrev pub first_on : ℕ → Option ℕ
  first_on n = find (set.contains of) (ray d n)

  -- the first piece, and the line behind it
  abbrev pub from_first : Option ℕ → List ℕ
  from_first None = []
  from_first (Some v) = v ∷ ray d v

  -- a line is clear squares, and then the first piece and the line behind it
  abbrev Split : List ℕ → Type 0
  Split xs = (before : List ℕ) × AllClear b before × (xs ≡ before ++ from_first (find (set.contains of) xs))

  split : (k n : ℕ) → k ≤ 9 → ends_within k d n ≡ true → Split (line k d n)
  unfolding line ray
  split zero n few ends = ([], tt, refl)
  split (suc k) n few ends = elim (option_cases (step d n)) [
    | inl e ↦ ([], tt, rw e)
    | inr w ↦
        let v = w.0 in
        let near = ends-next k d n v w.1 ends in
        let rest = split k v (omega arith) near in
        elim (cases_Bool (set.contains of v)) [
          | inl there ↦ ([], tt, rw (w.1, there) (ap (λ r. v ∷ r) (line-ends k 9 d v (omega arith) near)))
          | inr free ↦ (
            v ∷ rest.0,
            (not_some-none (b v) (sym (are v) ∙ free), rest.1),
            rw (w.1, free) (ap (λ r. v ∷ r) rest.2),
          )
        ]
  ]

  pub line-split : (n : ℕ) → Split (ray d n)
  unfolding ray
  line-split n = elim (ray-off d n)
      [ inl on ↦ split 9 n (omega arith) (ray-ends d n on) | inr none ↦ ([], tt, rw none) ]

  -- something stands on the first square
  pub first-stands : (n v : ℕ) → first_on n ≡ Some v → is_none (b v) ≡ false
  first-stands n v e = some-is_none (b v) (sym (are v) ∙ find-passes (set.contains of) v (ray d n) e)

  -- what is clear in front stays in front
  pub front-clear : (before rest : List ℕ) → AllClear b before → clear_front b (before ++ rest)
      ≡ before ++ clear_front b rest
  front-clear [] rest clear = refl
  front-clear (n ∷ before) rest clear = rw clear.0 (ap (λ r. n ∷ r) (front-clear before rest clear.1))

  module _ (p : DPiece) (t : Squares) where
    -- a king passes what is clear
    king_past : (before rest : List ℕ) → AllClear b before → king_jumps b p t (before ++ rest) ≡ king_jumps b p t rest
    king_past [] rest clear = refl
    king_past (n ∷ before) rest clear = rw clear.0 (king_past before rest clear.1)

    -- a king jumps over the first piece on its way, if it takes it
    abbrev pub king_over : Option ℕ → List (ℕ × ℕ)
    king_over first = option_map_or (λ v. cond (is_prey b p t v) (map (λ l. (v, l)) (clear_front b (ray d v))) []) first
        []

    pub king_by_first : (n : ℕ) → king_jumps b p t (ray d n) ≡ king_over (first_on n)
    king_by_first n =
        let s = line-split n in
        ap (king_jumps b p t) s.2 ∙ king_past s.0 _ s.1
        ∙ elim (option_cases (first_on n)) [ inl e ↦ rw e | inr w ↦ rw (w.1, first-stands n w.0 w.1) ]

    pub king-takes : (n v : ℕ) → first_on n ≡ Some v → any (king_jumps b p t (ray d n)) ≡ takes b p t d v
    king-takes n v e = rw (king_by_first n, e) (elim (cases_Bool (is_prey b p t v))
        [ inl f ↦ rw f (any-behind b p t d v) | inr f ↦ rw f ])
