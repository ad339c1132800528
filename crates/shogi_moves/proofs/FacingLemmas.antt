-- A square is attacked exactly if a look outward from it meets an enemy that comes so far.
use Rattle.std.proofs.Common.{◌≡◌, ℕ, zero, suc, ◌+◌, ◌-◌, ◌<◌, ◌≤◌, Bool, true, false, ◌&&◌, nat_le, nat_lt, Some}
use Rattle.std.proofs.Common.{None, List, [], ◌∷◌, ◌++◌, length, take, drop, inl, inr, refl, sym, ap, ◌∙◌, subst, arith}
use Rattle.std.specs.Prelude.{IsTrue, ◌↔◌, not}
use Rattle.std.specs.List.{list_all}
use Rattle.std.specs.FinMap as map
use Rattle.std.specs.Cmp.{both_ways}
use Rattle.std.proofs.lemmas.Bool.{and_parts, and_from, ltb-true, lt-ltb, leb-true}
use Rattle.squares.specs.declared.sides.Side.{Side}
use Rattle.squares.specs.declared.sides.Side.TheVariants.{First, Second}
use Rattle.squares.specs.declared.shogi.piece.Role.{Role}
use Rattle.squares.specs.declared.shogi.piece.Role.TheVariants as role
use Rattle.squares.specs.declared.shogi.piece.SPiece.{SPiece}
use Rattle.squares.specs.Sides.{other, same_side}
use Rattle.squares.specs.ShogiBoard.{ShogiBoard}
use Rattle.squares.specs.ShogiGeometry.{file_of, rank_of}
use Rattle.squares.specs.internal.In.{In, list_any-found, list_any-finds}
use Rattle.shogi_moves.specs.declared.heading.MoveDirection.{MoveDirection}
use Rattle.shogi_moves.specs.declared.heading.MoveDirection.TheVariants.{Forward}
use Rattle.shogi_moves.proofs.LineLemmas.{line-edge, line-nothing, line-step, Moved, HasAt, line-moved, moved-line}
use Rattle.shogi_moves.specs.Reach.{step, line, range, AllClear, Attacked}
use Rattle.shogi_moves.specs.internal.Search.{all_headings, attacked}
use Rattle.shogi_moves.specs.internal.Facing.{farthest, facing, faced_by, faced, faced_along, seen}
use Rattle.shogi_moves.specs.internal.Laws.{IsMoved}
use Rattle.shogi_moves.proofs.ReachLemmas.{In-all_headings, Reach-on}
use Rattle.shogi_moves.proofs.AttackLemmas.{attacked-is}

-- The same way back, for the other side.
moved-back : (s : Side) (h : MoveDirection) (k f r g q : ℕ) → Moved s h k f r g q → Moved (other s) (facing h) k g q f r
moved-back First Forward k f r g q w = (omega (arith, w.0), omega (arith, w.1))
moved-back Second Forward k f r g q w = (omega (arith, w.0), omega (arith, w.1))
moved-back _ _ k f r g q w = (omega (arith, w.0), omega (arith, w.1))

-- What stands j + 1 on the way back stands i + 1 on the way out.
moved-between : (s : Side) (h : MoveDirection) (i j k f r g q l p : ℕ) → i + j + 1 ≡ k → Moved s h (k + 1) f r g q
    → Moved (other s) (facing h) (j + 1) g q l p → Moved s h (i + 1) f r l p
moved-between First Forward i j k f r g q l p e v w = (omega (arith, e, v.0, w.0), omega (arith, e, v.1, w.1))
moved-between Second Forward i j k f r g q l p e v w = (omega (arith, e, v.0, w.0), omega (arith, e, v.1, w.1))
moved-between _ _ i j k f r g q l p e v w = (omega (arith, e, v.0, w.0), omega (arith, e, v.1, w.1))

pub facing-facing : (h : MoveDirection) → facing (facing h) ≡ h
facing-facing Forward = refl
facing-facing _ = refl

other-other : (s : Side) → other (other s) ≡ s
other-other First = refl
other-other Second = refl

-- no piece comes from farther
abbrev ranges_end : Role → Bool
ranges_end r = list_all (λ h. nat_le (range r h) (farthest h)) all_headings

all-end : (r : Role) → ranges_end r ≡ true
all-end role.King = refl
all-end _ = refl

all-found : {A : Type 0} (f : A → Bool) (xs : List A) (x : A) → In x xs → list_all f xs ≡ true → f x ≡ true
all-found f [] x h e = absurd h
all-found f (y ∷ xs) x (inl same) e = ap f (sym same) ∙ (and_parts (f y) (list_all f xs) e).0
all-found f (y ∷ xs) x (inr h) e = all-found f xs x h (and_parts (f y) (list_all f xs) e).1

range-farthest : (r : Role) (h : MoveDirection) → range r h ≤ farthest h
range-farthest r h = leb-true (range r h) (farthest h)
    (all-found (λ h. nat_le (range r h) (farthest h)) all_headings h (In-all_headings h) (all-end r))

farthest-facing : (h : MoveDirection) → farthest (facing h) ≡ farthest h
farthest-facing Forward = refl
farthest-facing _ = refl

-- y stands at place k of the squares, and those before it are empty
record ComesAt (board : ShogiBoard) (squares : List ℕ) (k y : ℕ) : Type 0 where
  at : HasAt squares k y
  clear : (i e : ℕ) → i < k → HasAt squares i e → map.get board e ≡ None

-- a line with nothing on it is as clear from its other end
module _ (board : ShogiBoard) (side : Side) (h : MoveDirection) (far wide : ℕ) (x k y : ℕ) (on : x < 81)
    (sees : ComesAt board (line far side h x) k y) (within : k < wide) where
  moved : (k < far) × (y < 81) × IsMoved side h (k + 1) x y
  moved = line-moved side h far x k y on sees.at

  clear_back : (j e : ℕ) → j < k → HasAt (line wide (other side) (facing h) y) j e → map.get board e ≡ None
  clear_back j e less has =
      let i = k - j - 1 in
      let sum : i + j + 1 ≡ k = omega arith in
      let m = line-moved (other side) (facing h) wide y j e moved.1 has in
      let out = moved-between side h i j k (file_of x) (rank_of x) (file_of y) (rank_of y) (file_of e) (rank_of e) sum
      moved.2 m.2 in
      sees.clear i e (omega arith) (moved-line side h far x i e on (omega (arith, moved.0)) m.1 out)

  turned : ComesAt board (line wide (other side) (facing h) y) k x
  turned = record {
    at = moved-line (other side) (facing h) wide y k x moved.1 within on
        (moved-back side h (k + 1) (file_of x) (rank_of x) (file_of y) (rank_of y) moved.2);
    clear = clear_back;
  }

-- a square less in front, or more
one_off : (board : ShogiBoard) (n : ℕ) (ns : List ℕ) (k y : ℕ) → ComesAt board (n ∷ ns) (suc k) y
    → ComesAt board ns k y
one_off board n ns k y c = record {
  at = (omega (arith, c.at.0), c.at.1);
  clear = λ i e less has. c.clear (suc i) e (omega arith) (omega (arith, has.0), has.1);
}

one_on : (board : ShogiBoard) (n : ℕ) (ns : List ℕ) (k y : ℕ) → map.get board n ≡ None → ComesAt board ns k y
    → ComesAt board (n ∷ ns) (suc k) y
one_on board n ns k y none c = record { at = (omega (arith, c.at.0), c.at.1); clear = cleared }
  where
    cleared : (i e : ℕ) → i < suc k → HasAt (n ∷ ns) i e → map.get board e ≡ None
    cleared zero e less has = ap (map.get board) (sym has.1) ∙ none
    cleared (suc i) e less has = c.clear i e (omega arith) (omega (arith, has.0), has.1)

-- places of lists
clear-all : (board : ShogiBoard) (xs : List ℕ) (k y : ℕ) → ComesAt board xs k y
    → (xs ≡ take k xs ++ y ∷ drop (suc k) xs) × AllClear board (take k xs)
clear-all board [] k y c = absurd (omega (arith, c.at.0))
clear-all board (x ∷ xs) zero y c = (ap (λ z. z ∷ xs) c.at.1, tt)
clear-all board (x ∷ xs) (suc k) y c = let w = clear-all board xs k y (one_off board x xs k y c) in
    (ap (λ zs. x ∷ zs) w.0, (c.clear 0 x (omega arith) (omega arith, refl), w.1))

all-clear : (board : ShogiBoard) (before after : List ℕ) (y : ℕ) → AllClear board before
    → ComesAt board (before ++ y ∷ after) (length before) y
all-clear board [] after y clear = record { at = (omega arith, refl); clear = λ i e less has. absurd (omega arith) }
all-clear board (x ∷ before) after y clear =
    one_on board x (before ++ y ∷ after) (length before) y clear.0 (all-clear board before after y clear.1)

-- what a look along squares finds
record Faces (board : ShogiBoard) (side : Side) (h : MoveDirection) (start : ℕ) (squares : List ℕ) : Type 0 where
  place : ℕ
  from : ℕ
  comes : ComesAt board squares place from
  piece : SPiece
  stands : map.get board from ≡ Some piece
  enemy : not (same_side piece.side side) ≡ true
  far : start + place < range piece.role (facing h)

module _ (board : ShogiBoard) (side : Side) (h : MoveDirection) where
  faced-sound : (start : ℕ) (squares : List ℕ) → faced board side h start squares ≡ true
      → Faces board side h start squares
  faced-sound start [] e = cc
  faced-sound start (n ∷ ns) e =
      elim (map.get board n) as (λ o. map.get board n ≡ o
      → faced_by side h start (faced board side h (start + 1) ns) o ≡ true → Faces board side h start (n ∷ ns)) [
        | None ↦ λ none e.
            let w = faced-sound (start + 1) ns e in
            record {
              place = suc w.place;
              from = w.from;
              comes = one_on board n ns w.place w.from none w.comes;
              piece = w.piece;
              stands = w.stands;
              enemy = w.enemy;
              far = omega (arith, w.far);
            }
        | Some piece ↦ λ some e.
            let w = and_parts (not (same_side piece.side side)) (nat_lt start (range piece.role (facing h))) e in
            record {
              place = 0;
              from = n;
              comes = record { at = (omega arith, refl); clear = λ i e less has. absurd (omega arith) };
              piece = piece;
              stands = some;
              enemy = w.0;
              far = omega (arith, ltb-true start (range piece.role (facing h)) w.1);
            }
      ] refl e

  faced-complete : (start : ℕ) (squares : List ℕ) (k from : ℕ) (piece : SPiece) → ComesAt board squares k from
      → map.get board from ≡ Some piece → not (same_side piece.side side) ≡ true
      → start + k < range piece.role (facing h) → faced board side h start squares ≡ true
  faced-complete start [] k from piece comes stands enemy far = absurd (omega (arith, comes.at.0))
  faced-complete start (n ∷ ns) zero from piece comes stands enemy far =
      ap (faced_by side h start (faced board side h (start + 1) ns)) (ap (map.get board) comes.at.1 ∙ stands)
      ∙ and_from (not (same_side piece.side side)) (nat_lt start (range piece.role (facing h))) enemy
      (lt-ltb start (range piece.role (facing h)) (omega (arith, far)))
  faced-complete start (n ∷ ns) (suc k) from piece comes stands enemy far =
      ap (faced_by side h start (faced board side h (start + 1) ns)) (comes.clear 0 n (omega arith) (omega arith, refl))
      ∙ faced-complete (start + 1) ns k from piece (one_off board n ns k from comes) stands enemy (omega (arith, far))

not_same-is : (a b : Side) → IsTrue (not (same_side a b)) ↔ (a ≡ other b)
not_same-is First First = (λ e. cc, λ e. cc)
not_same-is First Second = (λ e. refl, λ e. refl)
not_same-is Second First = (λ e. refl, λ e. refl)
not_same-is Second Second = (λ e. cc, λ e. cc)

module _ (board : ShogiBoard) (side : Side) (square : ℕ) (on : square < 81) where
  seen-sound : seen board side square ≡ true → Attacked board side square
  unfolding seen faced_along
  seen-sound e =
      let found = list_any-found (faced_along board side square) all_headings e in
      let h = found.0 in
      let w = faced-sound board side h 0 (line (farthest h) side h square) found.2 in
      let enemy : w.piece.side ≡ other side = (not_same-is w.piece.side side).0 w.enemy in
      let wide = range w.piece.role (facing h) in
      let back : ComesAt board (line wide (other side) (facing h) w.from) w.place square =
      turned board side h (farthest h) wide square w.place w.from on w.comes (omega (arith, w.far)) in
      let own : ComesAt board (line wide w.piece.side (facing h) w.from) w.place square =
      subst (λ s. ComesAt board (line wide s (facing h) w.from) w.place square) (sym enemy) back in
      let parts = clear-all board (line wide w.piece.side (facing h) w.from) w.place square own in
      record {
        from = w.from;
        piece = w.piece;
        enemy = enemy;
        reach = record {
          stands = w.stands;
          heading = facing h;
          before = take w.place (line wide w.piece.side (facing h) w.from);
          after = drop (suc w.place) (line wide w.piece.side (facing h) w.from);
          along = parts.0;
          clear = parts.1;
        };
      }

  seen-complete : Attacked board side square → seen board side square ≡ true
  unfolding seen faced_along
  seen-complete a =
      let r = a.reach in
      let g = r.heading in
      let k = length r.before in
      let wide = range a.piece.role g in
      let out : ComesAt board (line wide a.piece.side g a.from) k square =
      subst (λ ms. ComesAt board ms k square) (sym r.along) (all-clear board r.before r.after square r.clear) in
      let from_on : a.from < 81 = (Reach-on board a.piece a.from square r).0 in
      let near : k < wide = (line-moved a.piece.side g wide a.from k square from_on out.at).0 in
      let within : k < farthest (facing g) = omega (arith, near, range-farthest a.piece.role g, farthest-facing g) in
      let back : ComesAt board (line (farthest (facing g)) (other a.piece.side) (facing g) square) k a.from =
      turned board a.piece.side g wide (farthest (facing g)) a.from k square from_on out within in
      let mine : other a.piece.side ≡ side = ap other a.enemy ∙ other-other side in
      let looked : ComesAt board (line (farthest (facing g)) side (facing g) square) k a.from =
      subst (λ s. ComesAt board (line (farthest (facing g)) s (facing g) square) k a.from) mine back in
      list_any-finds (faced_along board side square) all_headings (facing g) (In-all_headings (facing g))
      (faced-complete board side (facing g) 0 (line (farthest (facing g)) side (facing g) square) k a.from a.piece
      looked r.stands ((not_same-is a.piece.side side).1 a.enemy)
      (subst (λ f. 0 + k < range a.piece.role f) (sym (facing-facing g)) (omega arith)))

  pub seen-attacked : seen board side square ≡ attacked board side square
  seen-attacked = both_ways (seen board side square) (attacked board side square)
      (λ e. (attacked-is board side square).1 (seen-sound e)) (λ e. seen-complete ((attacked-is board side square).0 e))

-- The steps of a look.
module _ (board : ShogiBoard) (side : Side) (h : MoveDirection) (k d n : ℕ) where
  pub look-edge : step side h n ≡ None → faced board side h d (line k side h n) ≡ false
  look-edge e = ap (faced board side h d) (line-edge k side h n e)

  pub look-end : k ≡ 0 → faced board side h d (line k side h n) ≡ false
  look-end e = ap (faced board side h d) (line-nothing k side h n e)

  module _ (m : ℕ) (next : step side h n ≡ Some m) where
    look-first : (j : ℕ) → k ≡ j + 1 → faced board side h d (line k side h n)
        ≡ faced_by side h d (faced board side h (d + 1) (line j side h m)) (map.get board m)
    look-first j more = ap (faced board side h d) (line-step k j side h n m next more)

    pub look-found : 0 < k → (piece : SPiece) → map.get board m ≡ Some piece
        → faced board side h d (line k side h n)
        ≡ (not (same_side piece.side side) && nat_lt d (range piece.role (facing h)))
    look-found more piece e = look-first (k - 1) (omega arith)
        ∙ ap (faced_by side h d (faced board side h (d + 1) (line (k - 1) side h m))) e

    pub look-on : (j : ℕ) → k ≡ j + 1 → map.get board m ≡ None
        → faced board side h d (line k side h n) ≡ faced board side h (d + 1) (line j side h m)
    look-on j more e = look-first j more ∙ ap (faced_by side h d (faced board side h (d + 1) (line j side h m))) e
