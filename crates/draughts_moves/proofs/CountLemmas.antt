-- Quiet moves counted by sets of squares.
use Rattle.std.proofs.Common.{◌≡◌, ℕ, zero, suc, ◌+◌, ◌*◌, ◌≤◌, ◌||◌, ◌&&◌, Bool, true, false, not, cond, nat_eq}
use Rattle.std.proofs.Common.{Option, Some, None, List, [], ◌∷◌, ◌++◌, length, inl, inr, refl, sym, ap, ◌∙◌, subst}
use Rattle.std.proofs.Common.{arith, count_by, length-append}
use Rattle.std.specs.Prelude.{map, filter, option_and_then}
use Rattle.std.specs.Cmp.{nat_cmp_total}
use Rattle.std.specs.FinMap as finite_map
use Rattle.std.specs.FinSet as set
use Rattle.std.specs.FinSet.{nat_cmp-IsAntisymmetric}
use Rattle.std.specs.List.{list_any, range_with_len, sum_by}
use Rattle.std.specs.Option.{option_map_or}
use Rattle.std.specs.Ordering.{nat_cmp}
use Rattle.std.proofs.Math.Bool.{and-false}
use Rattle.std.proofs.lemmas.Bool.{cases_Bool, cases_lt, false_from_ne_true, and_parts, and_cases, true≢false}
use Rattle.std.proofs.lemmas.Bool.{not-true, false≢true}
use Rattle.std.proofs.lemmas.List.{get_or_past, length-map}
use Rattle.std.proofs.lemmas.List.Concat.{length-flat_map}
use Rattle.std.proofs.lemmas.List.Folds.{list_any-append}
use Rattle.std.proofs.lemmas.List.FromFn.{get_or-map-range_with_len, length-map-range_with_len}
use Rattle.std.proofs.lemmas.List.FromFn.{length-range_with_len}
use Rattle.std.proofs.lemmas.List.Sums.{sum_by-cons, length-filter, count_by-le-length}
use Rattle.squares.specs.declared.draughts.direction.Direction.{Direction}
use Rattle.squares.specs.declared.draughts.direction.Direction.TheVariants.{UpLeft, UpRight, DownLeft, DownRight}
use Rattle.squares.specs.declared.draughts.piece.DPiece.{DPiece}
use Rattle.squares.specs.declared.sides.Side.{Side}
use Rattle.squares.specs.declared.sides.Side.TheVariants.{First, Second}
use Rattle.squares.specs.Sides.{same_side}
use Rattle.squares.specs.DraughtsBoard.{Position}
use Rattle.squares.specs.internal.DraughtsBoard.{is_of}
use Rattle.squares.specs.internal.DraughtsKept.{is_king}
use Rattle.squares.specs.DraughtsGeometry.{step, ray, line}
use Rattle.squares.specs.internal.DraughtsGeometry.{OnBoard, line-step}
use Rattle.squares.specs.internal.DraughtsMarks.{contains-squares_of, squares_of-no_zero, len-squares_of, nat_eq_other}
use Rattle.squares.specs.internal.DraughtsOnBoard.{AllOnBoard, ray-off, ray-on_board, step-on_board}
use Rattle.squares.specs.DraughtsSets.{Squares, ascending}
use Rattle.squares.specs.internal.DraughtsSets.{squares_of}
use Rattle.squares.proofs.Proved.{ray-moved}
use Rattle.draughts_moves.specs.internal.Counting.{count_squares, sum_squares, quiet_count, king_count, man_count}
use Rattle.draughts_moves.specs.Listing.{step_to}
use Rattle.draughts_moves.specs.internal.Listing.{quiet_in_order, quiet_list}
use Rattle.draughts_moves.specs.Search.{own_at, steps}
use Rattle.draughts_moves.specs.internal.Search.{is_step, next_in}
use Rattle.draughts_moves.proofs.Basics.{option_cases}
use Rattle.draughts_moves.proofs.ClearLemmas.{AreEmpty, ahead, ahead-is, steps-first, steps-second}
use Rattle.draughts_moves.proofs.IdleLemmas.{AreOf, own_in}
use Rattle.draughts_moves.proofs.LineLemmas.{is_in, distinct}
use Rattle.draughts_moves.proofs.ListLemmas.{IsOnBoard, quiet-none}
use Rattle.draughts_moves.proofs.MostLemmas.{own_at-is, not_empty}
use Rattle.draughts_moves.proofs.Prey.{at_along}
use Rattle.draughts_moves.proofs.StepLemmas.{is_step-none, is_step-own, is_step-sound}

-- ---- sums over a list

module _ {A : Type 0} (f g : A → ℕ) where
  sums-same : (xs : List A) → ((x : A) → f x ≡ g x) → sum_by f xs ≡ sum_by g xs
  sums-same [] same = refl
  sums-same (x ∷ xs) same = omega (arith, sum_by-cons f x xs, sum_by-cons g x xs, same x, sums-same xs same)

  -- what a test leaves out adds nothing
  sums-kept : (test : A → Bool) (xs : List A) → ((x : A) → test x ≡ true → f x ≡ g x)
      → ((x : A) → test x ≡ false → g x ≡ 0) → sum_by f (filter test xs) ≡ sum_by g xs
  sums-kept test [] same none = refl
  sums-kept test (x ∷ xs) same none =
      let rest = sums-kept test xs same none in
      let whole = sum_by-cons g x xs in
      elim (cases_Bool (test x)) [
        | inl e ↦ rw e (omega (arith, sum_by-cons f x (filter test xs), same x e, rest, whole))
        | inr e ↦ rw e (omega (arith, none x e, rest, whole))
      ]

  sums-both : (h : A → ℕ) (xs : List A) → ((x : A) → h x ≡ f x + g x) → sum_by h xs ≡ sum_by f xs + sum_by g xs
  sums-both h [] both = refl
  sums-both h (x ∷ xs) both = omega
      (arith, sum_by-cons h x xs, sum_by-cons f x xs, sum_by-cons g x xs, both x, sums-both h xs both)

sums-few : {A : Type 0} (f : A → ℕ) (m : ℕ) (xs : List A) → ((x : A) → f x ≤ m) → sum_by f xs ≤ length xs * m
sums-few f m [] few = omega arith
sums-few f m (x ∷ xs) few = omega (arith, sum_by-cons f x xs, few x, sums-few f m xs few)

count-map : {A : Type 0} (test : A → Bool) (xs : List A) → count_by (λ b. b) (map test xs) ≡ count_by test xs
count-map test [] = refl
count-map test (x ∷ xs) = omega (
  arith,
  sum_by-cons (λ b. cond b 1 0) (test x) (map test xs),
  sum_by-cons (λ y. cond (test y) 1 0) x xs,
  count-map test xs,
)

-- ---- how many squares a set has

module _ (s : Squares) (on : IsOnBoard s) where
  abbrev marks : List Bool
  marks = map (set.contains s) (range_with_len 1 50)

  off : (q : ℕ) → (OnBoard q → ⊥) → set.contains s q ≡ false
  off q past = false_from_ne_true (set.contains s q) (λ e. past (on q e))

  marked_so : (q : ℕ) → set.contains (squares_of marks) q ≡ set.contains s q
  marked_so zero = squares_of-no_zero marks ∙ sym (off 0 (λ h. omega (arith, h.0)))
  marked_so (suc k) =
      contains-squares_of marks (suc k) k (omega arith)
      ∙ elim (cases_lt k 50) [
        | inl less ↦ get_or-map-range_with_len (set.contains s) 1 50 k (suc k) false less (omega arith)
        | inr past ↦
            get_or_past marks k false (omega (arith, length-map-range_with_len (set.contains s) 1 50))
            ∙ sym (off (suc k) (λ h. omega (arith, h.1)))
      ]

  -- of a set on the board these are counted on the board
  pub len-counted : set.len s ≡ count_squares (set.contains s)
  unfolding count_squares
  len-counted =
      ap set.len (sym (set.same_set nat_cmp_total nat_cmp-IsAntisymmetric (squares_of marks) s marked_so))
      ∙ len-squares_of marks ∙ count-map (set.contains s) (range_with_len 1 50)

-- the set of a list of different squares has as many
len-distinct : (xs : List ℕ) → distinct xs ≡ true → set.len (set.from_list {R = nat_cmp} xs) ≡ length xs
len-distinct [] apart = set.len-empty nat_cmp
len-distinct (x ∷ xs) apart =
    let w = and_parts (not (is_in x xs)) (distinct xs) apart in
    let fresh : set.contains (set.from_list {R = nat_cmp} xs) x ≡ false =
    set.contains-from_list_nat xs x ∙ not-true (is_in x xs) w.0 in
    set.len-insert nat_cmp_total (set.from_list xs) x
    ∙ ap (λ b. cond b (set.len (set.from_list {R = nat_cmp} xs)) (set.len (set.from_list {R = nat_cmp} xs) + 1)) fresh
    ∙ omega (arith, len-distinct xs w.1)

count-listed : (test : ℕ → Bool) (xs : List ℕ) → distinct xs ≡ true → ((n : ℕ) → test n ≡ is_in n xs)
    → ((n : ℕ) → test n ≡ true → OnBoard n) → count_squares test ≡ length xs
unfolding count_squares
count-listed test xs apart are on =
    let s = set.from_list {R = nat_cmp} xs in
    let has : (n : ℕ) → test n ≡ set.contains s n = λ n. are n ∙ sym (set.contains-from_list_nat xs n) in
    sums-same (λ n. cond (test n) 1 0) (λ n. cond (set.contains s n) 1 0) (range_with_len 1 50)
    (λ n. ap (λ b. cond b 1 0) (has n))
    ∙ sym (len-counted s (λ q h. on q (has q ∙ h))) ∙ len-distinct xs apart

pub count-few : (test : ℕ → Bool) → count_squares test ≤ 50
unfolding count_squares
count-few test = count_by-le-length test (range_with_len 1 50)

-- ---- the moves of one piece

step-along : (d : Direction) (n m : ℕ) → step d n ≡ Some m → ray d n ≡ m ∷ line 8 d m
unfolding ray
step-along d n m e = line-step 9 8 d n m e refl

-- a square from which there is a step is on the board
step-from_on : (d : Direction) (n m : ℕ) → step d n ≡ Some m → OnBoard n
step-from_on d n m e = elim (ray-off d n)
    [ inl on ↦ on | inr none ↦ absurd (not_empty [] (line 8 d m) m (sym (step-along d n m e) ∙ none)) ]

-- the squares with a square of a set next to them are on the board
next-on : (s : Squares) (d : Direction) (n : ℕ) → next_in s d n ≡ true → OnBoard n
next-on s d n e = elim (option_cases (step d n))
    [ inl none ↦ absurd (false≢true (rw none at e)) | inr w ↦ step-from_on d n w.0 w.1 ]

-- two directions that lead to different squares
abbrev Parted : Direction → Direction → ℕ → Type 0
Parted l r x = (m : ℕ) → step l x ≡ Some m → step r x ≡ Some m → ⊥

up_parted : (x : ℕ) → Parted UpLeft UpRight x
up_parted x m left right =
    let on = step-from_on UpLeft x m left in
    let a = (ray-moved UpLeft x 0 m on (rw (step-along UpLeft x m left) (omega arith, refl))).1 in
    let b = (ray-moved UpRight x 0 m on (rw (step-along UpRight x m right) (omega arith, refl))).1 in
    omega (arith, a.1, b.1)

down_parted : (x : ℕ) → Parted DownLeft DownRight x
down_parted x m left right =
    let on = step-from_on DownLeft x m left in
    let a = (ray-moved DownLeft x 0 m on (rw (step-along DownLeft x m left) (omega arith, refl))).1 in
    let b = (ray-moved DownRight x 0 m on (rw (step-along DownRight x m right) (omega arith, refl))).1 in
    omega (arith, a.1, b.1)

-- the square of an option, if it is of a set
abbrev picked : Squares → Option ℕ → List ℕ
picked s o = option_map_or (λ m. cond (set.contains s m) (m ∷ []) []) o []

picked-length : (s : Squares) (o : Option ℕ) → length (picked s o) ≡ cond (option_map_or (set.contains s) o false) 1 0
picked-length s None = refl
picked-length s (Some m) = elim (cases_Bool (set.contains s m)) [ inl e ↦ rw e | inr e ↦ rw e ]

picked-distinct : (s : Squares) (o r : Option ℕ) → ((m : ℕ) → o ≡ Some m → r ≡ Some m → ⊥)
    → distinct (picked s o ++ picked s r) ≡ true
picked-distinct s None None apart = refl
picked-distinct s None (Some m) apart = elim (cases_Bool (set.contains s m)) [ inl e ↦ rw e | inr e ↦ rw e ]
picked-distinct s (Some m) None apart = elim (cases_Bool (set.contains s m)) [ inl e ↦ rw e | inr e ↦ rw e ]
picked-distinct s (Some m) (Some n) apart =
    let far : nat_eq n m ≡ false = nat_eq_other n m (λ e. apart m refl (ap Some e)) in
    elim (cases_Bool (set.contains s m)) [
      | inl e ↦ elim (cases_Bool (set.contains s n)) [ inl f ↦ rw (e, f, far) | inr f ↦ rw (e, f) ]
      | inr e ↦ elim (cases_Bool (set.contains s n)) [ inl f ↦ rw (e, f) | inr f ↦ rw (e, f) ]
    ]

module _ (p : Position) (x : ℕ) where
  step-on : (y : ℕ) → is_step p x y ≡ true → OnBoard y
  step-on y e = let m = is_step-sound p x y e in
      at_along m.before m.after y (subst AllOnBoard m.along (ray-on_board m.toward x))

  quiet-counted : quiet_count p x ≡ count_squares (is_step p x)
  unfolding quiet_count quiet_in_order count_squares
  quiet-counted = length-map (filter (is_step p x) (range_with_len 1 50)) (step_to x)
      ∙ length-filter (is_step p x) (range_with_len 1 50)

  quiet-few : quiet_count p x ≤ 50
  quiet-few = omega (arith, quiet-counted, count-few (is_step p x))

  -- a square without a piece of the side to move has none
  pub count-none : own_at p x ≡ None → quiet_count p x ≡ 0
  unfolding quiet_count
  count-none none = ap length (quiet-none p x (λ y. is_step-none p x y none))

  module _ (q : DPiece) (own : own_at p x ≡ Some q) where
    -- as many as the squares that it goes to
    pub count-steps : (targets : Squares)
        → ((n : ℕ) → set.contains targets n ≡ list_any (λ m. nat_eq m n) (steps (finite_map.get p.board) q x))
        → set.len targets ≡ quiet_count p x
    unfolding count_squares
    count-steps targets are =
        let same : (n : ℕ) → set.contains targets n ≡ is_step p x n = λ n. are n ∙ sym (is_step-own p x n q own) in
        len-counted targets (λ n h. step-on n (sym (same n) ∙ h))
        ∙ sums-same (λ n. cond (set.contains targets n) 1 0) (λ n. cond (is_step p x n) 1 0) (range_with_len 1 50)
        (λ n. ap (λ b. cond b 1 0) (same n))
        ∙ sym quiet-counted

    module _ (empty : Squares) (free : AreEmpty p empty) where
      ahead-picked : (d : Direction) → ahead (finite_map.get p.board) x d ≡ picked empty (step d x)
      ahead-picked d = ahead-is (finite_map.get p.board) x d ∙ elim (option_cases (step d x))
          [ inl e ↦ rw e | inr w ↦ rw (w.1, free w.0 (step-on_board d x w.0 w.1)) ]

      -- a man has a move to each of the two squares before it that is empty
      man-counted : (l r : Direction) → Parted l r x
          → ((n : ℕ) → (is_in n (ahead (finite_map.get p.board) x l) || is_in n (ahead (finite_map.get p.board) x r))
          ≡ is_in n (steps (finite_map.get p.board) q x))
          → quiet_count p x ≡ cond (next_in empty l x) 1 0 + cond (next_in empty r x) 1 0
      man-counted l r apart along =
          let left = picked empty (step l x) in
          let right = picked empty (step r x) in
          let are : (n : ℕ) → is_step p x n ≡ is_in n (left ++ right) = λ n.
          is_step-own p x n q own ∙ sym (along n)
          ∙ (λ i. is_in n (ahead-picked l i) || is_in n (ahead-picked r i))
          ∙ sym (list_any-append (λ m. nat_eq m n) left right) in
          quiet-counted ∙ count-listed (is_step p x) (left ++ right) (picked-distinct empty (step l x) (step r x) apart)
          are step-on
          ∙ omega (arith, length-append left right, picked-length empty (step l x), picked-length empty (step r x))

-- ---- the moves of all men and all kings

not_mine : (side : Side) (o : Option DPiece)
    → option_and_then (λ q. cond (same_side q.side side) (Some q) None) o ≡ None → is_of side o ≡ false
not_mine side None e = refl
not_mine side (Some q) e = elim (cases_Bool (same_side q.side side))
    [ inl mine ↦ absurd (nothing q (rw mine at e)) | inr other ↦ other ]
  where
    nothing : (r : DPiece) → Some r ≡ None → ⊥
    nothing r e = cc

-- the quiet moves are those of the men and those of the kings
pub both-counted : (p : Position) → length (quiet_list p) ≡ sum_squares (man_count p) + sum_squares (king_count p)
unfolding quiet_list quiet_count man_count king_count sum_squares
both-counted p =
    length-flat_map (quiet_in_order p) (range_with_len 1 50)
    ∙ sums-both (man_count p) (king_count p) (λ x. length (quiet_in_order p x)) (range_with_len 1 50)
    (λ x. elim (cases_Bool (is_king (finite_map.get p.board x)))
    [ inl e ↦ rw e (omega arith) | inr e ↦ rw e (omega arith) ])

pub kings-few : (p : Position) → sum_squares (king_count p) ≤ 2500
unfolding king_count sum_squares
kings-few p =
    let few : (x : ℕ) → king_count p x ≤ 50 = λ x. elim (cases_Bool (is_king (finite_map.get p.board x)))
    [ inl e ↦ rw e (quiet-few p x) | inr e ↦ rw e (omega arith) ] in
    omega (arith, sums-few (king_count p) 50 (range_with_len 1 50) few, length-range_with_len 1 50)

module _ (p : Position) (own kings : Squares) (are_own : AreOf p p.turn own)
    (are_kings : (n : ℕ) → set.contains kings n ≡ is_king (finite_map.get p.board n)) where
  -- what is not of the side to move
  other_none : (n : ℕ) → set.contains own n ≡ false → own_at p n ≡ None
  other_none n e = elim (option_cases (own_at p n))
      [ inl none ↦ none | inr w ↦ absurd (true≢false (sym (own_in p n w.0 w.1 own are_own) ∙ e)) ]

  -- the quiet moves of its kings are those of the squares of the set
  pub kings-counted : (s : Squares) → s ≡ set.intersection own kings
      → 0 + sum_by (quiet_count p) (ascending s) ≡ sum_squares (king_count p)
  unfolding ascending king_count sum_squares
  kings-counted s is =
      let crowned : ℕ → Bool = λ n. is_king (finite_map.get p.board n) in
      let parts : (n : ℕ) → set.contains s n ≡ (set.contains own n && crowned n) = λ n.
      ap (λ t. set.contains t n) is
      ∙ set.contains-intersection nat_cmp_total own kings n ∙ ap (λ b. set.contains own n && b) (are_kings n) in
      omega (
        arith,
        sums-kept (quiet_count p) (king_count p) (set.contains s) (range_with_len 1 50)
            (λ n h. rw (and_parts (set.contains own n) (crowned n) (sym (parts n) ∙ h)).1 refl)
            (λ n h. elim (and_cases (set.contains own n) (crowned n) (sym (parts n) ∙ h)) [
              | inl other ↦ elim (cases_Bool (crowned n))
                  [ inl e ↦ rw e (count-none p n (other_none n other)) | inr e ↦ rw e refl ]
              | inr man ↦ rw man refl
            ]),
      )

  module _ (empty : Squares) (free : AreEmpty p empty) where
    -- whether a man stands there with an empty square next to it in a direction
    abbrev men_toward : Direction → ℕ → Bool
    men_toward d n = set.contains (set.difference own kings) n && next_in empty d n

    men_are : (n : ℕ) → set.contains (set.difference own kings) n
        ≡ (set.contains own n && not (is_king (finite_map.get p.board n)))
    men_are n = set.contains-difference nat_cmp_total own kings n
        ∙ ap (λ b. set.contains own n && not b) (are_kings n)

    man-both : (l r : Direction) (x : ℕ) → Parted l r x
        → ((q : DPiece) → q.side ≡ p.turn → q.king ≡ false → (n : ℕ)
        → (is_in n (ahead (finite_map.get p.board) x l) || is_in n (ahead (finite_map.get p.board) x r))
        ≡ is_in n (steps (finite_map.get p.board) q x))
        → man_count p x ≡ cond (men_toward l x) 1 0 + cond (men_toward r x) 1 0
    unfolding man_count
    man-both l r x apart along = elim (option_cases (own_at p x)) [
      | inl none ↦
          let other : set.contains own x ≡ false = are_own x ∙ not_mine p.turn (finite_map.get p.board x) none in
          rw (men_are x, other) (elim (cases_Bool (is_king (finite_map.get p.board x)))
          [ inl e ↦ rw e refl | inr e ↦ rw e (count-none p x none) ])
      | inr w ↦
          let is = own_at-is p x w.0 w.1 in
          let king : is_king (finite_map.get p.board x) ≡ w.0.king = ap is_king is.0 in
          let mine = own_in p x w.0 w.1 own are_own in
          elim (cases_Bool w.0.king) [
            | inl e ↦ rw (men_are x, king ∙ e) (rw (and-false (set.contains own x)) refl)
            | inr e ↦ rw (men_are x, king ∙ e, mine)
                (man-counted p x w.0 w.1 empty free l r apart (along w.0 is.1 e))
          ]
    ]

    men-both : (l r : Direction) → ((x : ℕ) → Parted l r x)
        → ((x : ℕ) (q : DPiece) → q.side ≡ p.turn → q.king ≡ false → (n : ℕ)
        → (is_in n (ahead (finite_map.get p.board) x l) || is_in n (ahead (finite_map.get p.board) x r))
        ≡ is_in n (steps (finite_map.get p.board) q x))
        → sum_squares (man_count p) ≡ count_squares (men_toward l) + count_squares (men_toward r)
    unfolding sum_squares count_squares
    men-both l r apart along = sums-both (λ x. cond (men_toward l x) 1 0) (λ x. cond (men_toward r x) 1 0)
        (man_count p) (range_with_len 1 50) (λ x. man-both l r x (apart x) (along x))

    -- those of its men are counted by the empty squares before them, on each side
    pub men-first : p.turn ≡ First
        → sum_squares (man_count p) ≡ count_squares (men_toward UpLeft) + count_squares (men_toward UpRight)
    men-first turn = men-both UpLeft UpRight up_parted
        (λ x q mine man n. steps-first (finite_map.get p.board) q x man (mine ∙ turn) n)

    pub men-second : p.turn ≡ Second
        → sum_squares (man_count p) ≡ count_squares (men_toward DownLeft) + count_squares (men_toward DownRight)
    men-second turn = men-both DownLeft DownRight down_parted
        (λ x q mine man n. steps-second (finite_map.get p.board) q x man (mine ∙ turn) n)

-- of squares with an empty one next to them, as many as are counted on the board
pub toward-counted : (s empty before : Squares) (d : Direction)
    → ((n : ℕ) → set.contains before n ≡ (set.contains s n && next_in empty d n))
    → set.len before ≡ count_squares (λ n. set.contains s n && next_in empty d n)
unfolding count_squares
toward-counted s empty before d are =
    len-counted before (λ n h. next-on empty d n
    (and_parts (set.contains s n) (next_in empty d n) (sym (are n) ∙ h)).1)
    ∙ sums-same (λ n. cond (set.contains before n) 1 0)
    (λ n. cond (set.contains s n && next_in empty d n) 1 0) (range_with_len 1 50)
    (λ n. ap (λ b. cond b 1 0) (are n))

-- a loop that takes the least square out of a set and adds what it has
pub popped_sum : (f : ℕ → ℕ) (before after : Squares) (n count whole : ℕ) → ascending before ≡ n ∷ ascending after
    → count + sum_by f (ascending before) ≡ whole → (count + f n) + sum_by f (ascending after) ≡ whole
popped_sum f before after n count whole pop so_far =
    omega (arith, ap (sum_by f) pop, sum_by-cons f n (ascending after), so_far)
