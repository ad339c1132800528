-- The listed routes are the routes.
use Rattle.std.proofs.Common.{◌≡◌, ℕ, zero, suc, ◌-◌, ◌<◌, ◌≤◌, cond, ◌&&◌, nat_eq, ◌⊎◌, inl, inr, List, [], ◌∷◌, ◌++◌}
use Rattle.std.proofs.Common.{length, take, drop, get_or, Some, refl, sym, ap, ◌∙◌, subst, arith, append_assoc}
use Rattle.std.specs.Prelude.{map, Vec, ◌↔◌}
use Rattle.std.specs.List.{flat_map, Contains}
use Rattle.std.specs.List.Sorted.{IsStrictlySortedBy}
use Rattle.std.specs.declared.alloc.Global.{Global}
use Rattle.std.specs.declared.cmp.Ordering.TheVariants.{Equal}
use Rattle.std.specs.Cmp.{IsTotalOrder}
use Rattle.std.specs.Cmp.Lexicographic.{nat_list_cmp_total}
use Rattle.std.specs.FinMap.{nat_cmp-IsAntisymmetric, slice_cmp-IsAntisymmetric}
use Rattle.std.specs.FinSet as set
use Rattle.std.proofs.lemmas.Grind.{common_steps}
use Rattle.std.proofs.lemmas.Bool.{cases_Bool, and_parts}
use Rattle.std.proofs.lemmas.List.{take_all, get_or-map, length-map, append-nil, map-id}
use Rattle.squares.specs.declared.draughts.piece.DPiece.{DPiece}
use Rattle.squares.specs.declared.draughts.moves.DMove.{DMove}
use Rattle.squares.specs.DraughtsBoard.{Position}
use Rattle.squares.specs.internal.DraughtsMarks.{nat_eq_same, nat_eq-same}
use Rattle.squares.specs.DraughtsSets.{Squares, same_squares}
use Rattle.squares.specs.internal.DraughtsSameSquares.{same_squares-same, same_squares-itself}
use Rattle.squares.specs.internal.In.{In, In-map, In-from_map, In-flat_map, In-from_flat_map, In-Contains, Contains-In}
use Rattle.squares.specs.OrderedLists.{put, put_all}
use Rattle.squares.specs.internal.PutLemmas.{put-at_end, map-flat_map, put_all-sorted, put_all-in, put_all-has}
use Rattle.draughts_moves.specs.Capture.{Cells, Route, Capture, without}
use Rattle.draughts_moves.specs.Search.{own_at, jumps}
use Rattle.draughts_moves.specs.Routes.{route_cmp, landings_of}
use Rattle.draughts_moves.specs.internal.Routes.{lists_in}
use Rattle.draughts_moves.proofs.JumpLemmas.{jumps-sound, jumps-complete}
use Rattle.draughts_moves.proofs.MostLemmas.{Capture-by, Capture-route, Capture-len}

pub route_cmp-total : IsTotalOrder route_cmp
route_cmp-total = nat_list_cmp_total

pub list_at : (vs : List (Vec ℕ Global)) (i : ℕ) (v : Vec ℕ Global) → i < length vs → v ≡ get_or vs i v
    → v.items ≡ get_or (lists_in vs) i v.items
list_at vs i v h is = ap (λ (u : Vec ℕ Global). u.items) is ∙ sym (get_or-map (λ u. u.items) vs i v v.items h)

pub length-lists_in : (vs : List (Vec ℕ Global)) → length (lists_in vs) ≡ length vs
length-lists_in vs = length-map vs (λ v. v.items)

-- a vector put at a place
pub lists_in-insert : (vs : List (Vec ℕ Global)) (v : Vec ℕ Global) (i : ℕ)
    → lists_in (take i vs ++ v ∷ drop i vs) ≡ take i (lists_in vs) ++ v.items ∷ drop i (lists_in vs)
lists_in-insert vs v zero = refl
lists_in-insert [] v (suc i) = refl
lists_in-insert (w ∷ vs) v (suc i) = ap (λ r. w.items ∷ r) (lists_in-insert vs v i)

-- past the last one
pub put-last : (route : List ℕ) (rs : List (List ℕ)) (i n : ℕ) → length rs ≡ n → n ≤ i
    → take i rs ++ put route_cmp route (drop i rs) ≡ put route_cmp route rs
    → put route_cmp route rs ≡ take n rs ++ route ∷ drop n rs
put-last route rs i n e past so_far =
    let none : drop n rs ≡ [] = grind (arith, common_steps) in
    rw (none, take_all n rs (omega arith)) (sym (put-at_end route_cmp route_cmp-total route rs i (omega arith) so_far))

map-twice : (path : List ℕ) (x : ℕ) (rs : List (List ℕ))
    → map (λ ls. path ++ ls) (map (λ ls. x ∷ ls) rs) ≡ map (λ ls. path ++ (x ∷ ls)) rs
map-twice path x [] = refl
map-twice path x (r ∷ rs) = ap (λ more. (path ++ (x ∷ r)) ∷ more) (map-twice path x rs)

module _ (b : Cells) (q : DPiece) (all : Squares) (to : ℕ) where
  pub landings_of-sound : (n : ℕ) (t : Squares) (s : ℕ) (ls : List ℕ) → In ls (landings_of b q all to n t s)
      → (length ls ≡ n) × Route b q t s ls all to
  unfolding landings_of
  landings_of-sound zero t s ls h = elim (cases_Bool (nat_eq s to && same_squares t all)) [
    | inl e ↦ elim (rw e at h) [
      | inl none ↦
          let v = and_parts (nat_eq s to) (same_squares t all) e in
          subst (λ r. (length r ≡ 0) × Route b q t s r all to) none
          (refl, (same_squares-same t all v.1, nat_eq-same s to v.0))
      | inr never ↦ absurd never
    ]
    | inr e ↦ absurd (rw e at h)
  ]
  landings_of-sound (suc n) t s ls h =
      let w = In-from_flat_map (λ j. map (λ r. j.1 ∷ r) (landings_of b q all to n (set.insert t j.0) j.1)) ls
      (jumps b q t s) h in
      let v = In-from_map (λ r. w.0.1 ∷ r) ls (landings_of b q all to n (set.insert t w.0.0) w.0.1) w.2 in
      let rest = landings_of-sound n (set.insert t w.0.0) w.0.1 v.0 v.1 in
      subst (λ r. (length r ≡ suc n) × Route b q t s r all to) v.2
      (ap suc rest.0, (w.0.0, jumps-sound b q t s w.0.0 w.0.1 w.1, rest.1))

  pub landings_of-complete : (ls : List ℕ) (t : Squares) (s : ℕ) → Route b q t s ls all to
      → In ls (landings_of b q all to (length ls) t s)
  unfolding landings_of
  landings_of-complete [] t s r = rw (nat_eq_same s to r.1, ← r.0, same_squares-itself t) (inl refl)
  landings_of-complete (l ∷ ls) t s r =
      In-flat_map (λ j. map (λ r. j.1 ∷ r) (landings_of b q all to (length ls) (set.insert t j.0) j.1)) (l ∷ ls)
      (r.0, l) (jumps b q t s) (jumps-complete b q t s r.0 l r.1)
      (In-map (λ r. l ∷ r) ls (landings_of b q all to (length ls) (set.insert t r.0) l)
      (landings_of-complete ls (set.insert t r.0) l r.2))

  pub none_left : (n : ℕ) (t : Squares) (s : ℕ) (path : List ℕ) → n ≡ 0
      → map (λ ls. path ++ ls) (landings_of b q all to n t s) ≡ cond (nat_eq s to && same_squares t all) (path ∷ []) []
  unfolding landings_of
  none_left n t s path z = rw z (elim (cases_Bool (nat_eq s to && same_squares t all))
      [ inl e ↦ rw (e, append-nil) | inr e ↦ rw e ])

  -- the routes that go on from a path by a jump
  abbrev pub by_jump : ℕ → Squares → List ℕ → ℕ × ℕ → List (List ℕ)
  by_jump left t path j = map (λ ls. path ++ (j.1 ∷ ls)) (landings_of b q all to left (set.insert t j.0) j.1)

  pub more_left : (n left : ℕ) (t : Squares) (s : ℕ) (path : List ℕ) → n ≡ suc left
      → map (λ ls. path ++ ls) (landings_of b q all to n t s) ≡ flat_map (by_jump left t path) (jumps b q t s)
  unfolding landings_of
  more_left n left t s path e = rw (e, map-flat_map (λ ls. path ++ ls)) (simp (map-twice path))

  -- the path that is longer by a jump
  pub longer_path : (path longer : List ℕ) (x : ℕ) (rs : List (List ℕ)) → longer ≡ path ++ x ∷ []
      → map (λ ls. longer ++ ls) rs ≡ map (λ ls. path ++ (x ∷ ls)) rs
  longer_path path longer x rs e = rw e (simp append_assoc)

pub same_list : (rs : List (List ℕ)) → map (λ ls. [] ++ ls) rs ≡ rs
same_list rs = map-id rs

-- without its last element
pub without_last : (xs longer popped : List ℕ) (x : ℕ) → longer ≡ xs ++ x ∷ [] → (n : ℕ) → n ≡ length longer
    → popped ≡ take (n - 1) longer → popped ≡ xs
without_last xs longer popped x e n size is = grind (arith, common_steps)

pub sorted_routes : (found : List (List ℕ)) → IsStrictlySortedBy route_cmp (put_all route_cmp found [])
unfolding IsStrictlySortedBy
sorted_routes found = put_all-sorted route_cmp route_cmp-total found [] tt

-- the routes of a move that are found are all its captures
pub found-captures : (p : Position) (m : DMove) (q : DPiece) → own_at p m.from ≡ Some q → (ls : List ℕ)
    → Contains (put_all route_cmp
    (landings_of (without p.board m.from) q m.taken m.to (set.len m.taken) set.empty m.from) []) ls
    ↔ Capture p m.from ls m.taken m.to
found-captures p m q own ls =
    let b = without p.board m.from in
    let found = landings_of b q m.taken m.to (set.len m.taken) set.empty m.from in
    let ties : (x y : List ℕ) → In x [] ⊎ In x found → In y found → route_cmp x y ≡ Equal → x ≡ y =
    λ x y _ _ tie. slice_cmp-IsAntisymmetric nat_cmp-IsAntisymmetric x y tie in (
      λ h. elim (put_all-in route_cmp route_cmp-total found [] ls (Contains-In ls _ h)) [
        | inl never ↦ absurd never
        | inr k ↦ Capture-by p m.from q own
            (landings_of-sound b q m.taken m.to (set.len m.taken) set.empty m.from ls k).1
      ],
      λ c. In-Contains ls _
          (put_all-has route_cmp route_cmp-total found [] ls ties
          (rw (Capture-len p m.from m.to ls m.taken c)
          (landings_of-complete b q m.taken m.to ls set.empty m.from (Capture-route p m.from q own c)))),
    )
