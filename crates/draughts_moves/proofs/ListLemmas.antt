-- The listed moves are the legal ones, and the quiet ones are listed in order.
use Rattle.std.proofs.Common.{◌≡◌, ℕ, zero, suc, ◌+◌, ◌≤◌, ◌<◌, ◌&&◌, inl, inr, Bool, true, false, nat_eq, Some, List}
use Rattle.std.proofs.Common.{[], ◌∷◌, length, refl, sym, ap, ◌∙◌, subst, arith}
use Rattle.std.specs.Prelude.{map, filter}
use Rattle.std.specs.List.{flat_map, range_with_len, list_any}
use Rattle.std.specs.List.Sorted.{IsStrictlySortedBy}
use Rattle.std.specs.Ordering.{nat_cmp}
use Rattle.std.specs.Cmp.{nat_cmp_total}
use Rattle.std.specs.FinMap.{nat_cmp-IsAntisymmetric, slice_cmp-IsAntisymmetric}
use Rattle.std.specs.declared.cmp.Ordering.TheVariants.{Less, Equal}
use Rattle.std.specs.FinSet as set
use Rattle.std.specs.FinMap as finite_map
use Rattle.std.proofs.lemmas.Bool.{cases_lt, cases_eq, cases_Bool, or_cases}
use Rattle.std.proofs.lemmas.Grind.{common_steps}
use Rattle.std.proofs.lemmas.List.Elements.{filter_agree}
use Rattle.squares.specs.declared.draughts.piece.DPiece.{DPiece}
use Rattle.squares.specs.declared.draughts.moves.DMove.{DMove}
use Rattle.squares.specs.DraughtsBoard.{Position}
use Rattle.squares.specs.DraughtsSets.{Squares, ascending, same_squares}
use Rattle.squares.specs.internal.DraughtsSameSquares.{same_squares-same}
use Rattle.squares.specs.internal.DraughtsMarks.{contains-insert_nat, nat_eq_same, nat_eq_other, nat_eq-same}
use Rattle.squares.specs.internal.DraughtsGeometry.{OnBoard}
use Rattle.squares.specs.internal.DraughtsOnBoard.{AllOnBoard, ray-on_board}
use Rattle.squares.specs.internal.In.{In, In-map, In-from_map, In-flat_map, In-from_flat_map}
use Rattle.squares.specs.internal.PutLemmas.{less_all, append-sorted}
use Rattle.draughts_moves.specs.Capture.{Cells, Route, LegalCapture, HasCapture, without}
use Rattle.draughts_moves.specs.internal.Capture.{IsMost}
use Rattle.draughts_moves.specs.Legal.{IsQuiet, Legal}
use Rattle.draughts_moves.specs.Search.{own_at, routes_of, steps}
use Rattle.draughts_moves.specs.internal.Search.{is_step}
use Rattle.draughts_moves.specs.Listing.{key_of, move_cmp, move_to, step_to, captures_at, quiet_at, moves_at, moves}
use Rattle.draughts_moves.specs.internal.Listing.{quiet_in_order, quiet_list}
use Rattle.draughts_moves.proofs.Basics.{option_cases, from_filter, in_filter}
use Rattle.draughts_moves.proofs.MaxLemmas.{flat_map-filter}
use Rattle.draughts_moves.proofs.MostLemmas.{Jump-from_on, Capture-by, Capture-own, Capture-Reaches, Capture-legal}
use Rattle.draughts_moves.proofs.MostLemmas.{LegalCapture-size, HasCapture-most, most-HasCapture}
use Rattle.draughts_moves.proofs.PlaceLemmas.{move_cmp-total}
use Rattle.draughts_moves.proofs.Prey.{Jump-over_on, In-board, at_along}
use Rattle.draughts_moves.proofs.RouteLemmas.{Route-len, routes_of-sound, routes_of-complete}
use Rattle.draughts_moves.proofs.StepLemmas.{quiet-from_steps, quiet-own, quiet-in_steps, quiet-from_on, is_step-own}
use Rattle.draughts_moves.proofs.StepLemmas.{is_step-sound, is_step-complete}

-- each square of the set is on the board
abbrev pub IsOnBoard : Squares → Type 0
IsOnBoard s = (q : ℕ) → set.contains s q ≡ true → OnBoard q

Route-on : (b : Cells) (p : DPiece) (ls : List ℕ) (t : Squares) (s : ℕ) (all : Squares) (to : ℕ) → IsOnBoard t
    → Route b p t s ls all to → IsOnBoard all
Route-on b p [] t s all to on r = subst IsOnBoard r.0 on
Route-on b p (l ∷ ls) t s all to on r =
    Route-on b p ls (set.insert t r.0) l all to
    (λ q h. elim (or_cases (nat_eq q r.0) (set.contains t q) (sym (contains-insert_nat t r.0 q) ∙ h)) [
      | inl e ↦ subst OnBoard (sym (nat_eq-same q r.0 e)) (Jump-over_on b p t s r.0 l r.1)
      | inr old ↦ on q old
    ]) r.2

-- sets on the board with the same ascending squares are equal
ascending-same : (s t : Squares) → IsOnBoard s → IsOnBoard t → ascending s ≡ ascending t → s ≡ t
unfolding ascending same_squares
ascending-same s t on_s on_t e =
    let within : (u v : Squares) → IsOnBoard u → ascending u ≡ ascending v → set.is_subset u v ≡ true =
    λ u v on f. set.contains-is_subset nat_cmp_total u v
    (λ q h. (from_filter (set.contains v) q (range_with_len 1 50)
    (subst (In q) f (in_filter (set.contains u) q (range_with_len 1 50) (In-board q (on q h)) h))).1) in
    same_squares-same s t (λ i. within s t on_s e i && within t s on_t (sym e) i)

pub move_cmp-same : (a b : DMove) → IsOnBoard a.taken → IsOnBoard b.taken → move_cmp a b ≡ Equal → a ≡ b
move_cmp-same a b on_a on_b tie =
    let keys : a.from ∷ a.to ∷ ascending a.taken ≡ b.from ∷ b.to ∷ ascending b.taken =
    slice_cmp-IsAntisymmetric nat_cmp-IsAntisymmetric (key_of a) (key_of b) tie in
    let from : a.from ≡ b.from = cc in
    let to : a.to ≡ b.to = cc in
    let squares : ascending a.taken ≡ ascending b.taken = cc in
    let taken = ascending-same a.taken b.taken on_a on_b squares in
    λ i. record { from = from i; to = to i; taken = taken i }

step-of_quiet : (m : DMove) → m.taken ≡ set.empty → step_to m.from m.to ≡ m
step-of_quiet m none = λ i. record { from = m.from; to = m.to; taken = sym none i }

module _ (p : Position) (n : ℕ) (most : IsMost p n) where
  captures_at-sound : 0 < n → (x : ℕ) (m : DMove) → In m (captures_at p n x) → LegalCapture p m.from m.to m.taken
      × IsOnBoard m.taken
  unfolding captures_at
  captures_at-sound positive x m h = elim (option_cases (own_at p x)) [
    | inl none ↦ absurd (rw none at h)
    | inr v ↦
        let b = without p.board x in
        let q = v.0 in
        let w = In-from_map (move_to x) m (routes_of b q n set.empty x) (rw v.1 at h) in
        let r = routes_of-sound b q n set.empty x w.0.0 w.0.1 w.1 in
        let size : set.len w.0.0 ≡ n = omega
        (arith, Route-len b q r.0 set.empty x w.0.0 w.0.1 r.2, set.len-empty nat_cmp, r.1) in
        let nowhere : IsOnBoard set.empty = λ s e. let f = set.contains-empty nat_cmp s in cc in
        subst (λ (d : DMove). LegalCapture p d.from d.to d.taken × IsOnBoard d.taken) w.2 (
          Capture-legal p most (Capture-by p x q v.1 r.2) (omega (arith, size)) (omega (arith, size)),
          Route-on b q r.0 set.empty x w.0.0 w.0.1 nowhere r.2,
        )
  ]

  quiet_at-sound : n ≡ 0 → (x : ℕ) (m : DMove) → In m (quiet_at p x) → Legal p m × IsOnBoard m.taken
  unfolding quiet_at
  quiet_at-sound zero_most x m h = elim (option_cases (own_at p x)) [
    | inl none ↦ absurd (rw none at h)
    | inr v ↦
        let w = In-from_map (step_to x) m (steps (finite_map.get p.board) v.0 x) (rw v.1 at h) in
        subst (λ (d : DMove). Legal p d × IsOnBoard d.taken) w.2 (
          inr (λ c. omega (arith, most-HasCapture p most c), (quiet-from_steps p x w.0 v.0 v.1 w.1, refl)),
          λ s e. let f = set.contains-empty nat_cmp s in cc,
        )
  ]

  moves_at-sound : (x : ℕ) (m : DMove) → In m (moves_at p n x) → Legal p m × IsOnBoard m.taken
  unfolding moves_at
  moves_at-sound x m h = elim (cases_eq n 0) [
    | inl e ↦ quiet_at-sound e x m (rw (nat_eq_same n 0 e) at h)
    | inr d ↦ let w = captures_at-sound (omega arith) x m (rw (nat_eq_other n 0 d) at h) in (inl w.0, w.1)
  ]

  pub moves-sound : (m : DMove) → In m (moves p n) → Legal p m × IsOnBoard m.taken
  unfolding moves
  moves-sound m h = let w = In-from_flat_map (moves_at p n) m (range_with_len 1 50) h in moves_at-sound w.0 m w.2

  from_on : (b : Cells) (q : DPiece) (ls : List ℕ) (t : Squares) (s : ℕ) (all : Squares) (to : ℕ) → 0 < length ls
      → Route b q t s ls all to → OnBoard s
  from_on b q [] t s all to h r = absurd (omega arith)
  from_on b q (l ∷ ls) t s all to h r = Jump-from_on b q t s r.0 l r.1

  in_moves : (m : DMove) → OnBoard m.from → In m (moves_at p n m.from) → In m (moves p n)
  unfolding moves
  in_moves m on h = In-flat_map (moves_at p n) m m.from (range_with_len 1 50) (In-board m.from on) h

  capture-complete : (m : DMove) → LegalCapture p m.from m.to m.taken → In m (moves p n)
  unfolding moves_at captures_at
  capture-complete m legal =
      let q = legal.capture.piece in
      let b = without p.board m.from in
      let own = Capture-own p legal.capture in
      let size = LegalCapture-size p most legal in
      let r = Capture-Reaches p q own legal.capture in
      let found = routes_of-complete b q r.0 set.empty m.from m.taken m.to r.2 in
      let among : In (m.taken, m.to) (routes_of b q n set.empty m.from) = rw (r.1, size) at found in
      let positive : 0 < n = omega (arith, legal.takes, size) in
      in_moves m (from_on b q r.0 set.empty m.from m.taken m.to (omega (arith, r.1, legal.takes)) r.2)
      (rw (nat_eq_other n 0 (λ e. omega arith), own)
      (In-map (move_to m.from) (m.taken, m.to) (routes_of b q n set.empty m.from) among))

  quiet-complete : (m : DMove) → (HasCapture p → ⊥) → IsQuiet p m → In m (moves p n)
  unfolding moves_at quiet_at
  quiet-complete m none quiet =
      let q = quiet.0.piece in
      let zero_most : n ≡ 0 = elim (cases_lt 0 n)
      [ inl h ↦ absurd (none (HasCapture-most p most h)) | inr h ↦ omega arith ] in
      let goes = steps (finite_map.get p.board) q m.from in
      in_moves m (quiet-from_on p m.from m.to quiet.0)
      (rw (nat_eq_same n 0 zero_most, quiet-own p m.from m.to quiet.0)
      (subst (λ d. In d (map (step_to m.from) goes)) (step-of_quiet m quiet.1)
      (In-map (step_to m.from) m.to goes (quiet-in_steps p m.from m.to quiet.0))))

  pub moves-complete : (m : DMove) → Legal p m → In m (moves p n)
  moves-complete m (inl c) = capture-complete m c
  moves-complete m (inr q) = quiet-complete m q.0 q.1

less : (a b : ℕ) → a < b → nat_cmp a b ≡ Less
less a b h = grind (arith, common_steps)

tied : (a : ℕ) → nat_cmp a a ≡ Equal
tied a = grind (arith, common_steps)

from_range : (a n v : ℕ) → In v (range_with_len a n) → a ≤ v
from_range a zero v h = absurd h
from_range a (suc n) v (inl e) = omega arith
from_range a (suc n) v (inr h) = omega (arith, from_range (a + 1) n v h)

steps-sorted : (test : ℕ → Bool) (x n a : ℕ)
    → IsStrictlySortedBy move_cmp (map (step_to x) (filter test (range_with_len a n)))
unfolding IsStrictlySortedBy
steps-sorted test x zero a = tt
steps-sorted test x (suc n) a =
    let more = range_with_len (a + 1) n in
    let later : (y : ℕ) → In y (filter test more) → move_cmp (step_to x a) (step_to x y) ≡ Less =
    λ y k. let past = from_range (a + 1) n y (from_filter test y more k).0 in rw (tied x, less a y (omega arith)) in
    let first = less_all move_cmp move_cmp-total (step_to x a) (map (step_to x) (filter test more))
    (λ m k. let w = In-from_map (step_to x) m (filter test more) k in rw (← w.2) (later w.0 w.1)) in
    elim (cases_Bool (test a))
    [ inl e ↦ rw e (first, steps-sorted test x n (a + 1)) | inr e ↦ rw e (steps-sorted test x n (a + 1)) ]

module _ (p : Position) where
  -- a listed quiet move is a step of the piece where it begins
  from_row : (x : ℕ) (m : DMove) → In m (quiet_in_order p x)
      → (y : ℕ) × (is_step p x y ≡ true) × (step_to x y ≡ m)
  unfolding quiet_in_order
  from_row x m h =
      let w = In-from_map (step_to x) m (filter (is_step p x) (range_with_len 1 50)) h in
      (w.0, (from_filter (is_step p x) w.0 (range_with_len 1 50) w.1).1, w.2)

  row-sorted : (x : ℕ) → IsStrictlySortedBy move_cmp (quiet_in_order p x)
  unfolding quiet_in_order
  row-sorted x = steps-sorted (is_step p x) x 50 1

  rows-sorted : (n a : ℕ) → IsStrictlySortedBy move_cmp (flat_map (quiet_in_order p) (range_with_len a n))
  unfolding IsStrictlySortedBy
  rows-sorted zero a = tt
  rows-sorted (suc n) a =
      append-sorted move_cmp move_cmp-total (quiet_in_order p a)
      (flat_map (quiet_in_order p) (range_with_len (a + 1) n)) (row-sorted a) (rows-sorted n (a + 1))
      (λ l m h k.
      let v = from_row a l h in
      let w = In-from_flat_map (quiet_in_order p) m (range_with_len (a + 1) n) k in
      let u = from_row w.0 m w.2 in
      let past = from_range (a + 1) n w.0 w.1 in
      rw (← v.2, ← u.2, less a w.0 (omega arith)))

  -- each quiet move once, in order
  pub quiet-sorted : IsStrictlySortedBy move_cmp (quiet_list p)
  unfolding quiet_list
  quiet-sorted = rows-sorted 50 1

  pub quiet-sound : (m : DMove) → In m (quiet_list p) → IsQuiet p m
  unfolding quiet_list
  quiet-sound m h =
      let w = In-from_flat_map (quiet_in_order p) m (range_with_len 1 50) h in
      let u = from_row w.0 m w.2 in
      subst (IsQuiet p) u.2 (is_step-sound p w.0 u.0 u.1, refl)

  pub quiet-listed : (m : DMove) → IsQuiet p m → In m (quiet_list p)
  unfolding quiet_list quiet_in_order
  quiet-listed m quiet =
      let q = quiet.0 in
      let board = range_with_len 1 50 in
      let to_on = at_along q.before q.after m.to (subst AllOnBoard q.along (ray-on_board q.toward m.from)) in
      let there = in_filter (is_step p m.from) m.to board (In-board m.to to_on) (is_step-complete p m.from m.to q) in
      In-flat_map (quiet_in_order p) m m.from board (In-board m.from (quiet-from_on p m.from m.to q))
      (subst (λ d. In d (map (step_to m.from) (filter (is_step p m.from) board))) (step-of_quiet m quiet.1)
      (In-map (step_to m.from) m.to (filter (is_step p m.from) board) there))

  -- the squares that a piece goes to, as a set
  pub quiet-of_steps : (x : ℕ) (q : DPiece) (targets : Squares) → own_at p x ≡ Some q
      → ((n : ℕ) → set.contains targets n ≡ list_any (λ m. nat_eq m n) (steps (finite_map.get p.board) q x))
      → map (step_to x) (ascending targets) ≡ quiet_in_order p x
  unfolding quiet_in_order ascending
  quiet-of_steps x q targets own are =
      ap (map (step_to x))
      (filter_agree (set.contains targets) (is_step p x) (λ n. are n ∙ sym (is_step-own p x n q own))
      (range_with_len 1 50))

  no_step : (ns : List ℕ) (test : ℕ → Bool) → ((n : ℕ) → test n ≡ false) → filter test ns ≡ []
  no_step [] test none = refl
  no_step (n ∷ ns) test none = rw (none n) (no_step ns test none)

  -- a piece that goes nowhere has no quiet moves
  pub quiet-none : (x : ℕ) → ((y : ℕ) → is_step p x y ≡ false) → quiet_in_order p x ≡ []
  unfolding quiet_in_order
  quiet-none x none = ap (map (step_to x)) (no_step (range_with_len 1 50) (is_step p x) none)

  -- the moves of the squares of a set are all, where the others have none
  pub quiet-of_able : (able : Squares) → ((n : ℕ) → set.contains able n ≡ false → quiet_in_order p n ≡ [])
      → flat_map (quiet_in_order p) (ascending able) ≡ quiet_list p
  unfolding quiet_list ascending
  quiet-of_able able none = sym (flat_map-filter (quiet_in_order p) (set.contains able) (range_with_len 1 50) none)
