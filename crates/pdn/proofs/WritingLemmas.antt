-- Which of the legal moves and of the routes decide how a capture is written.
use Rattle.std.proofs.Common.{◌≡◌, ◌≢◌, ℕ, Bool, true, false, ◌&&◌, not, nat_eq, List, [], ◌∷◌, Some, None, inl, inr}
use Rattle.std.proofs.Common.{refl, sym, ap, ◌∙◌}
use Rattle.std.specs.Prelude.{Vec, slice_get, IsTrue, ◌↔◌}
use Rattle.std.specs.List.{AllByRecursion, Contains, list_any}
use Rattle.std.specs.List.Sorted.{IsStrictlySortedBy}
use Rattle.std.specs.declared.alloc.Global.{Global}
use Rattle.std.specs.declared.cmp.Ordering.TheVariants.{Less, Equal, Greater}
use Rattle.std.proofs.lemmas.Cmp.{tied_itself}
use Rattle.std.specs.FinSet as set
use Rattle.std.proofs.lemmas.Bool.{and_parts, eqb-true, eq-eqb}
use Rattle.squares.specs.declared.draughts.moves.DMove.{DMove}
use Rattle.squares.specs.DraughtsBoard.{Position}
use Rattle.squares.specs.DraughtsSets.{Squares, same_squares}
use Rattle.squares.specs.internal.DraughtsSameSquares.{same_squares-same, same_squares-itself}
use Rattle.squares.specs.internal.In.{In, In-Contains, Contains-In, list_any-found, list_any-finds}
use Rattle.draughts_moves.specs.Capture.{Capture}
use Rattle.draughts_moves.specs.Legal.{Legal}
use Rattle.draughts_moves.specs.Routes.{route_cmp}
use Rattle.draughts_moves.specs.internal.Routes.{lists_in}
use Rattle.draughts_moves.proofs.Proved.{route_cmp-total}
use Rattle.pdn.specs.MoveText.{IsRival, HasRival, IsFirstRoute, is_like}

not_both : (a : Bool) → not a ≡ true → a ≡ true → ⊥
not_both true e f = cc
not_both false e f = cc

differ : (s t : Squares) (b : Bool) → same_squares s t ≡ b → s ≢ t → not b ≡ true
differ s t true e h = absurd (h (same_squares-same s t e))
differ s t false e h = refl

same_move : (a b : DMove) → a.from ≡ b.from → a.to ≡ b.to → a.taken ≡ b.taken → a ≡ b
same_move a b from to taken = λ i. record { from = from i; to = to i; taken = taken i }

pub is_like-rival : (p : Position) (m other : DMove) → Legal p other → is_like m other ≡ true → IsRival p m other
is_like-rival p m other legal e =
    let from =
    and_parts (nat_eq other.from m.from) (nat_eq other.to m.to && not (same_squares other.taken m.taken)) e in
    let to = and_parts (nat_eq other.to m.to) (not (same_squares other.taken m.taken)) from.1 in
    record {
      legal = legal;
      from = eqb-true other.from m.from from.0;
      to = eqb-true other.to m.to to.0;
      differs = λ same. not_both (same_squares other.taken m.taken) to.1
          (ap (λ (n : DMove). same_squares n.taken m.taken) same ∙ same_squares-itself m.taken);
    }

pub rival-is_like : (p : Position) (m other : DMove) → IsRival p m other → is_like m other ≡ true
rival-is_like p m other rival =
    let from = eq-eqb other.from m.from rival.from in
    let to = eq-eqb other.to m.to rival.to in
    let taken = differ other.taken m.taken (same_squares other.taken m.taken) refl
    (λ same. rival.differs (same_move other m rival.from rival.to same)) in
    λ i. from i && (to i && taken i)

-- some legal move among the moves passes the test exactly where there is a rival
pub list_any-rival : (p : Position) (m : DMove) (moves : List DMove) → ((n : DMove) → Contains moves n ↔ Legal p n)
    → IsTrue (list_any (is_like m) moves) ↔ HasRival p m
list_any-rival p m moves members = (
  λ e. let w = list_any-found (is_like m) moves e in
      (w.0, is_like-rival p m w.0 ((members w.0).0 (In-Contains w.0 moves w.1)) w.2),
  λ w. list_any-finds (is_like m) moves w.0 (Contains-In w.0 moves ((members w.0).1 w.1.legal))
      (rival-is_like p m w.0 w.1),
)

-- a capture that is legal has a route
pub Legal-Capture : (p : Position) (m : DMove) → Legal p m → m.taken ≢ set.empty → (landings : List ℕ)
    × Capture p m.from landings m.taken m.to
Legal-Capture p m (inl legal) takes = (legal.landings, legal.capture)
Legal-Capture p m (inr quiet) takes = absurd (takes quiet.1.1)

below_all : (ls others : List ℕ) (rs : List (List ℕ)) → AllByRecursion (λ r. route_cmp ls r ≡ Less) rs → In others rs
    → route_cmp ls others ≡ Less
below_all ls others [] all h = absurd h
below_all ls others (r ∷ rs) all (inl e) = ap (route_cmp ls) (sym e) ∙ all.0
below_all ls others (r ∷ rs) all (inr h) = below_all ls others rs all.1 h

-- the first of the routes in order
pub first_least : (rs : List (List ℕ)) (ls others : List ℕ) → IsStrictlySortedBy route_cmp rs → slice_get rs 0 ≡ Some ls
    → In others rs → route_cmp ls others ≢ Greater
unfolding IsStrictlySortedBy
first_least [] ls others sorted first h = cc
first_least (r ∷ rs) ls others sorted first (inl e) = λ greater.
    let is : r ≡ ls = cc in
    let same : others ≡ ls = sym e ∙ is in
    let tie : route_cmp ls others ≡ Equal = ap (route_cmp ls) same ∙ tied_itself route_cmp-total ls in
    cc
first_least (r ∷ rs) ls others sorted first (inr h) = λ greater.
    let is : r ≡ ls = cc in
    let less : route_cmp ls others ≡ Less = ap (λ x. route_cmp x others) (sym is) ∙ below_all r others rs sorted.0 h in
    cc

first_in : (vs : List (Vec ℕ Global)) (v : Vec ℕ Global) → slice_get vs 0 ≡ Some v
    → slice_get (lists_in vs) 0 ≡ Some v.items
first_in [] v e = cc
first_in (w ∷ vs) v e = let is : w ≡ v = cc in ap (λ (u : Vec ℕ Global). Some u.items) is

none_in : (vs : List (Vec ℕ Global)) (ls : List ℕ) → slice_get vs 0 ≡ None → In ls (lists_in vs) → ⊥
none_in [] ls e h = h
none_in (w ∷ vs) ls e h = cc

first_is_in : (rs : List (List ℕ)) (ls : List ℕ) → slice_get rs 0 ≡ Some ls → In ls rs
first_is_in [] ls e = cc
first_is_in (r ∷ rs) ls e = inl cc

module _ (p : Position) (m : DMove) (vs : List (Vec ℕ Global))
    (members : (ls : List ℕ) → Contains (lists_in vs) ls ↔ Capture p m.from ls m.taken m.to) where
  -- a legal capture has a first route
  pub has-first : Legal p m → m.taken ≢ set.empty → slice_get vs 0 ≡ None → ⊥
  has-first legal takes none = let w = Legal-Capture p m legal takes in
      none_in vs w.0 none (Contains-In w.0 (lists_in vs) ((members w.0).1 w.1))

  pub first-is : IsStrictlySortedBy route_cmp (lists_in vs) → (v : Vec ℕ Global) → slice_get vs 0 ≡ Some v
      → IsFirstRoute p m v.items
  first-is sorted v e =
      let first = first_in vs v e in
      record {
        route = (members v.items).0 (In-Contains v.items (lists_in vs) (first_is_in (lists_in vs) v.items first));
        first = λ others route. first_least (lists_in vs) v.items others sorted first
            (Contains-In others (lists_in vs) ((members others).1 route));
      }
