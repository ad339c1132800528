-- Which routes and moves the text of a capture fits.
use Rattle.std.proofs.Common.{false, ◌≡◌, ℕ, suc, ◌-◌, ◌<◌, inl, inr, true, cond, ◌&&◌, nat_eq, nat_lt, List, []}
use Rattle.std.proofs.Common.{◌∷◌, ◌++◌, length, take, Some, refl, sym, ap, ◌∙◌, subst, arith}
use Rattle.std.specs.Prelude.{Vec, ◌↔◌}
use Rattle.std.specs.List.{Contains, list_any}
use Rattle.std.specs.declared.alloc.Global.{Global}
use Rattle.std.specs.FinSet as set
use Rattle.std.proofs.lemmas.Grind.{common_steps}
use Rattle.std.proofs.lemmas.Bool.{and_parts, eqb-true}
use Rattle.squares.specs.declared.draughts.piece.DPiece.{DPiece}
use Rattle.squares.specs.declared.draughts.moves.DMove.{DMove}
use Rattle.squares.specs.DraughtsBoard.{Position}
use Rattle.squares.specs.DraughtsSets.{Squares}
use Rattle.squares.specs.internal.DraughtsMarks.{nat_eq-same, nat_eq_same}
use Rattle.squares.specs.internal.In.{In, In-Contains, Contains-In, list_any-found, list_any-finds, In-map}
use Rattle.squares.specs.internal.In.{In-from_map}
use Rattle.draughts_moves.specs.Capture.{Cells, Jump, Route, Capture, without}
use Rattle.draughts_moves.specs.Search.{own_at, jumps}
use Rattle.draughts_moves.specs.internal.Routes.{lists_in}
use Rattle.draughts_moves.proofs.Proved.{jumps-sound, jumps-complete, own_at-own, own_at-is}
use Rattle.pdn.specs.Subsequence.{IsSubsequence}
use Rattle.pdn.specs.internal.Subsequence.{unmatched_after, is_subsequence}
use Rattle.pdn.specs.internal.Passing.{passes}
use Rattle.pdn.specs.internal.Reaching.{GoesTo, StepsTo}
use Rattle.pdn.specs.ReadMove.{Fits}
use Rattle.pdn.specs.internal.ReadMove.{SomeFits}

tail_of : (x : ℕ) (xs ys : List ℕ) → IsSubsequence (x ∷ xs) ys → IsSubsequence xs ys
tail_of x [] ys h = tt
tail_of x (z ∷ xs) [] h = h
tail_of x (z ∷ xs) (y ∷ ys) (inl h) = inr h.1
tail_of x (z ∷ xs) (y ∷ ys) (inr h) = inr (tail_of x (z ∷ xs) ys h)

-- a landing that is looked for is found at once
pub past-front : (xs : List ℕ) (y : ℕ) (ys : List ℕ) → IsSubsequence xs (y ∷ ys) → IsSubsequence (unmatched_after xs y) ys
past-front [] y ys h = tt
past-front (x ∷ xs) y ys h =
    elim (nat_eq x y) as (λ b. nat_eq x y ≡ b → IsSubsequence (cond b xs (x ∷ xs)) ys) [
      | true ↦ λ e. elim h [ inl k ↦ k.1 | inr k ↦ tail_of x xs ys k ]
      | false ↦ λ e. elim h [ inl k ↦ let same = nat_eq_same x y k.0 in cc | inr k ↦ k ]
    ] refl

pub front-past : (xs : List ℕ) (y : ℕ) (ys : List ℕ) → IsSubsequence (unmatched_after xs y) ys → IsSubsequence xs (y ∷ ys)
front-past [] y ys h = tt
front-past (x ∷ xs) y ys h =
    elim (nat_eq x y) as (λ b. nat_eq x y ≡ b → IsSubsequence (cond b xs (x ∷ xs)) ys
    → IsSubsequence (x ∷ xs) (y ∷ ys)) [
      | true ↦ λ e k. inl (nat_eq-same x y e, k)
      | false ↦ λ e k. inr k
    ] refl h

in_nothing : (xs : List ℕ) → IsSubsequence xs [] → xs ≡ []
in_nothing [] h = refl
in_nothing (x ∷ xs) h = absurd h

pub is_subsequence-sound : (xs ys : List ℕ) → is_subsequence xs ys ≡ true → IsSubsequence xs ys
is_subsequence-sound [] ys e = tt
is_subsequence-sound (x ∷ xs) [] e = absurd (omega (arith, eqb-true (length (x ∷ xs)) 0 e))
is_subsequence-sound (x ∷ xs) (y ∷ ys) e = front-past (x ∷ xs) y ys (is_subsequence-sound (unmatched_after (x ∷ xs) y) ys e)

pub is_subsequence-complete : (ys xs : List ℕ) → IsSubsequence xs ys → is_subsequence xs ys ≡ true
is_subsequence-complete [] xs h = ap (λ zs. nat_eq (length zs) 0) (in_nothing xs h)
is_subsequence-complete (y ∷ ys) xs h = is_subsequence-complete ys (unmatched_after xs y) (past-front xs y ys h)

module _ (b : Cells) (q : DPiece) (t : Squares) (s : ℕ) (middle : List ℕ) (to : ℕ) where
  -- one jump, and then more or none
  pub GoesTo-by : (j : ℕ × ℕ) → In j (jumps b q t s) → StepsTo b q t j middle to → GoesTo b q t s middle to
  GoesTo-by j jump (inl ends) =
      let over = jumps-sound b q t s j.0 j.1 jump in (
        [],
        set.insert t j.0,
        (j.0, subst (λ l. Jump b q t s j.0 l) ends.1 over, (refl, refl)),
        subst (λ xs. IsSubsequence xs []) (sym ends.0) tt,
      )
  GoesTo-by j jump (inr goes) =
      (j.1 ∷ goes.0, goes.1, (j.0, jumps-sound b q t s j.0 j.1 jump, goes.2), front-past middle j.1 goes.0 goes.3)

  from_route : (before : List ℕ) (all : Squares) → Route b q t s (before ++ to ∷ []) all to
      → IsSubsequence middle before → (j : ℕ × ℕ) × In j (jumps b q t s) × StepsTo b q t j middle to
  from_route [] all r h = ((r.0, to), jumps-complete b q t s r.0 to r.1, inl (in_nothing middle h, refl))
  from_route (l ∷ before) all r h =
      ((r.0, l), jumps-complete b q t s r.0 l r.1, inr (before, all, r.2, past-front middle l before h))

  pub GoesTo-first : GoesTo b q t s middle to → (j : ℕ × ℕ) × In j (jumps b q t s) × StepsTo b q t j middle to
  GoesTo-first g = from_route g.0 g.1 g.2 g.3

-- the last landing is where the route ends
pub Route-last : (b : Cells) (q : DPiece) (before : List ℕ) (t : Squares) (s last : ℕ) (all : Squares) (to : ℕ)
    → Route b q t s (before ++ last ∷ []) all to → last ≡ to
Route-last b q [] t s last all to r = r.2.1
Route-last b q (l ∷ before) t s last all to r = Route-last b q before (set.insert t r.0) l last all to r.2

module _ (p : Position) (from : ℕ) (middle : List ℕ) (to : ℕ) where
  pub SomeFits-goes : (q : DPiece) → own_at p from ≡ Some q → GoesTo (without p.board from) q set.empty from middle to
      → SomeFits p from middle to
  SomeFits-goes q own g =
      let is = own_at-is p from q own in (
        record { from = from; to = to; taken = g.1 },
        record {
          leaves = refl;
          comes = refl;
          before = g.0;
          route = record { piece = q; stands = is.0; own = is.1; route = g.2 };
          passes = g.3;
        },
      )

  pub goes-SomeFits : (q : DPiece) → own_at p from ≡ Some q → SomeFits p from middle to
      → GoesTo (without p.board from) q set.empty from middle to
  goes-SomeFits q own f =
      let m = f.0 in
      let fits = f.1 in
      let c : Capture p from (fits.before ++ to ∷ []) m.taken m.to =
      subst (λ x. Capture p x (fits.before ++ to ∷ []) m.taken m.to) fits.leaves fits.route in
      let mine = own_at-own p from c.piece c.stands c.own in
      let same : c.piece ≡ q = cc in
      let route = subst (λ d. Route (without p.board from) d set.empty from (fits.before ++ to ∷ []) m.taken m.to) same
      c.route in (
        fits.before,
        m.taken,
        subst (λ x. Route (without p.board from) q set.empty from (fits.before ++ to ∷ []) m.taken x) fits.comes
            route,
        fits.passes,
      )

pub short_front : (xs : List ℕ) → 0 < length xs → (last : ℕ) × (xs ≡ take (length xs - 1) xs ++ last ∷ [])
short_front [] h = absurd (omega arith)
short_front (x ∷ []) h = (x, refl)
short_front (x ∷ y ∷ xs) h =
    let rest = short_front (y ∷ xs) (omega arith) in
    let size : length (x ∷ y ∷ xs) - 1 ≡ suc (length (y ∷ xs) - 1) = omega arith in
    (rest.0, ap (λ r. x ∷ r) rest.1 ∙ ap (λ n. take n (x ∷ y ∷ xs) ++ rest.0 ∷ []) (sym size))

pub front_of : (xs : List ℕ) (y : ℕ) → (0 < length (xs ++ y ∷ []))
    × (take (length (xs ++ y ∷ []) - 1) (xs ++ y ∷ []) ≡ xs)
front_of [] y = (omega arith, refl)
front_of (x ∷ xs) y =
    let rest = front_of xs y in
    let size : length (x ∷ (xs ++ y ∷ [])) - 1 ≡ suc (length (xs ++ y ∷ []) - 1) = omega (arith, rest.0) in
    (omega arith, ap (λ n. take n (x ∷ (xs ++ y ∷ []))) size ∙ ap (λ r. x ∷ r) rest.1)

positive : (n : ℕ) → nat_lt 0 n ≡ true → 0 < n
positive n e = grind (arith, common_steps)

is_positive : (n : ℕ) → 0 < n → nat_lt 0 n ≡ true
is_positive n h = grind (arith, common_steps)

-- a capture comes to its last square over others
pub split-route : (p : Position) (m : DMove) (ls : List ℕ) → Capture p m.from ls m.taken m.to → 0 < length ls
    → ls ≡ take (length ls - 1) ls ++ m.to ∷ []
split-route p m ls c h =
    let s = short_front ls h in
    let before = take (length ls - 1) ls in
    let c' = subst (λ xs. Capture p m.from xs m.taken m.to) s.1 c in
    s.1
    ∙ ap (λ l. before ++ l ∷ [])
    (Route-last (without p.board m.from) c'.piece before set.empty m.from s.0 m.taken m.to c'.route)

module _ (p : Position) (m : DMove) (from : ℕ) (middle : List ℕ) (to : ℕ) where
  -- a route of a move passes the squares exactly where the text fits the move
  pub route-fits : m.from ≡ from → m.to ≡ to → (ls : List ℕ) → Capture p m.from ls m.taken m.to
      → passes middle ls ≡ true → Fits p from middle to m
  route-fits leaves comes ls c e =
      let before = take (length ls - 1) ls in
      let tests = and_parts (nat_lt 0 (length ls)) (is_subsequence middle before) e in
      let split = split-route p m ls c (positive (length ls) tests.0) ∙ ap (λ l. before ++ l ∷ []) comes in
      record {
        leaves = leaves;
        comes = comes;
        before = before;
        route = subst (λ xs. Capture p m.from xs m.taken m.to) split c;
        passes = is_subsequence-sound middle before tests.1;
      }

  pub fits-passes : (f : Fits p from middle to m) → passes middle (f.before ++ to ∷ []) ≡ true
  fits-passes f =
      let front = front_of f.before to in
      λ i. is_positive (length (f.before ++ to ∷ [])) front.0 i &&
      (ap (is_subsequence middle) front.1 ∙ is_subsequence-complete f.before middle f.passes) i

  module _ (vs : List (Vec ℕ Global))
      (members : (ls : List ℕ) → Contains (lists_in vs) ls ↔ Capture p m.from ls m.taken m.to) where
    pub some_passes-Fits : m.from ≡ from → m.to ≡ to → list_any (λ v. passes middle v.items) vs ≡ true
        → Fits p from middle to m
    some_passes-Fits leaves comes e =
        let w = list_any-found (λ (v : Vec ℕ Global). passes middle v.items) vs e in
        let among = In-map (λ (u : Vec ℕ Global). u.items) w.0 vs w.1 in
        route-fits leaves comes w.0.items ((members w.0.items).0 (In-Contains w.0.items (lists_in vs) among)) w.2

    pub Fits-some_passes : Fits p from middle to m → list_any (λ v. passes middle v.items) vs ≡ true
    Fits-some_passes f =
        let ls = f.before ++ to ∷ [] in
        let among = Contains-In ls (lists_in vs) ((members ls).1 f.route) in
        let w = In-from_map (λ (u : Vec ℕ Global). u.items) ls vs among in
        list_any-finds (λ (v : Vec ℕ Global). passes middle v.items) vs w.0 w.1
        (ap (passes middle) w.2 ∙ fits-passes f)
