-- The next square, walks along lines, and lines by files and ranks.
use Rattle.std.proofs.Common.{◌≡◌, ℕ, zero, suc, ◌+◌, ◌-◌, Bool, true, false, cond, ◌&&◌, ◌||◌, nat_le, nat_eq, ◌<◌}
use Rattle.std.proofs.Common.{Option, Some, None, [], ◌∷◌, refl, sym, ap, ◌∙◌, arith, ◌≤◌, List, length, get_or, subst}
use Rattle.std.specs.Prelude.{IsTrue, IsSome, IfSome, ◌↔◌, is_none}
use Rattle.std.specs.Option.{option_map_or}
use Rattle.std.specs.FinMap as map
use Rattle.std.proofs.lemmas.Bool.{lt-ltb}
use Rattle.squares.specs.declared.sides.Side.{Side}
use Rattle.squares.specs.ShogiBoard.{ShogiBoard}
use Rattle.squares.specs.ShogiGeometry.{file_of, rank_of, shogi_number}
use Rattle.squares.specs.internal.ShogiGeometry.{OnShogiBoard}
use Rattle.shogi_moves.specs.declared.heading.MoveDirection.{MoveDirection}
use Rattle.shogi_moves.specs.Reach.{next_file, next_rank, square_at, step, line}
use Rattle.shogi_moves.specs.internal.Search.{comes_to}
use Rattle.shogi_moves.proofs.TruthLemmas.{and-is, at_most-is}
use Rattle.squares.specs.declared.sides.Side.TheVariants.{First, Second}
use Rattle.shogi_moves.specs.declared.heading.MoveDirection.TheVariants.{Forward}
use Rattle.shogi_moves.specs.internal.Laws.{FileMoved, RankMoved, IsMoved}

abbrev pub is_on : ℕ → ℕ → Bool
is_on f r = (nat_le 1 f && nat_le f 9) && (nat_le 1 r && nat_le r 9)

is_on-is : (f r : ℕ) → IsTrue (is_on f r) ↔ OnShogiBoard f r
is_on-is f r = and-is (nat_le 1 f && nat_le f 9) (nat_le 1 r && nat_le r 9)
    (and-is (nat_le 1 f) (nat_le f 9) (at_most-is 1 f) (at_most-is f 9))
    (and-is (nat_le 1 r) (nat_le r 9) (at_most-is 1 r) (at_most-is r 9))

pub square_at-some : (f r m : ℕ) → square_at f r ≡ Some m → OnShogiBoard f r × (shogi_number f r ≡ m)
square_at-some f r m e =
    elim (is_on f r) as (λ c. is_on f r ≡ c → cond c (Some (shogi_number f r)) None ≡ Some m → OnShogiBoard f r
    × (shogi_number f r ≡ m)) [
      | true ↦ λ on e. let is : shogi_number f r ≡ m = cc in ((is_on-is f r).0 on, is)
      | false ↦ λ _ e. cc
    ] refl e

pub square_at-number : (f r : ℕ) → OnShogiBoard f r → square_at f r ≡ Some (shogi_number f r)
square_at-number f r on = ap (λ c. cond c (Some (shogi_number f r)) None) ((is_on-is f r).1 on)

pub number-below : (f r : ℕ) → OnShogiBoard f r → shogi_number f r < 81
number-below f r on = omega (arith, on.0.0, on.0.1, on.1.0, on.1.1)

-- a square that is there exactly on the board is the one by definition
pub square_at-is : (o : Option ℕ) (f r : ℕ) → (IsSome o ↔ OnShogiBoard f r) → IfSome o (λ s. s ≡ shogi_number f r)
    → o ≡ square_at f r
square_at-is None f r h v =
    elim (is_on f r) as (λ c. is_on f r ≡ c → None ≡ cond c (Some (shogi_number f r)) None) [
      | true ↦ λ e. let never = h.1 ((is_on-is f r).0 e) in cc
      | false ↦ λ _. refl
    ] refl
square_at-is (Some s) f r h v = ap Some v ∙ sym (square_at-number f r (h.0 refl))

pub step-square_at : (side : Side) (heading : MoveDirection) (n : ℕ) → n < 81
    → step side heading n ≡ square_at (next_file heading (file_of n)) (next_rank side heading (rank_of n))
unfolding step
step-square_at side heading n h =
    ap (λ c. cond c (square_at (next_file heading (file_of n)) (next_rank side heading (rank_of n))) None)
    (lt-ltb n 81 h)

pub line_suc : (k : ℕ) (side : Side) (heading : MoveDirection) (n m : ℕ) → step side heading n ≡ Some m
    → line (suc k) side heading n ≡ m ∷ line k side heading m
unfolding line
line_suc k side heading n m e = ap (λ o. option_map_or (λ m. m ∷ line k side heading m) o []) e

pub line-step : (k j : ℕ) (side : Side) (heading : MoveDirection) (n m : ℕ) → step side heading n ≡ Some m → k ≡ j + 1
    → line k side heading n ≡ m ∷ line j side heading m
line-step zero j side heading n m e h = absurd (omega arith)
line-step (suc k) j side heading n m e h = line_suc k side heading n m e
    ∙ ap (λ i. m ∷ line i side heading m) (omega arith)

pub line-edge : (k : ℕ) (side : Side) (heading : MoveDirection) (n : ℕ) → step side heading n ≡ None
    → line k side heading n ≡ []
unfolding line
line-edge zero side heading n e = refl
line-edge (suc k) side heading n e = ap (λ o. option_map_or (λ m. m ∷ line k side heading m) o []) e

pub line-nothing : (k : ℕ) (side : Side) (heading : MoveDirection) (n : ℕ) → k ≡ 0 → line k side heading n ≡ []
unfolding line
line-nothing zero side heading n e = refl
line-nothing (suc k) side heading n e = absurd (omega arith)

-- The steps of a walk.
module _ (board : ShogiBoard) (to : ℕ) (k : ℕ) (side : Side) (heading : MoveDirection) (n : ℕ) where
  pub walk-edge : step side heading n ≡ None → comes_to board to (line k side heading n) ≡ false
  walk-edge e = ap (comes_to board to) (line-edge k side heading n e)

  pub walk-end : k ≡ 0 → comes_to board to (line k side heading n) ≡ false
  walk-end e = ap (comes_to board to) (line-nothing k side heading n e)

  module _ (m : ℕ) (next : step side heading n ≡ Some m) where
    pub walk_first : (j : ℕ) → k ≡ j + 1 → comes_to board to (line k side heading n)
        ≡ (nat_eq m to || (is_none (map.get board m) && comes_to board to (line j side heading m)))
    walk_first j more = ap (comes_to board to) (line-step k j side heading n m next more)

    pub walk-here : 0 < k → nat_eq m to ≡ true → comes_to board to (line k side heading n) ≡ true
    walk-here more e = walk_first (k - 1) (omega arith)
        ∙ ap (λ c. c || (is_none (map.get board m) && comes_to board to (line (k - 1) side heading m))) e

    pub walk-stopped : 0 < k → nat_eq m to ≡ false → is_none (map.get board m) ≡ false
        → comes_to board to (line k side heading n) ≡ false
    walk-stopped more e f = walk_first (k - 1) (omega arith)
        ∙ (λ i. e i || (f i && comes_to board to (line (k - 1) side heading m)))

    pub walk-on : (j : ℕ) → k ≡ j + 1 → nat_eq m to ≡ false → is_none (map.get board m) ≡ true
        → comes_to board to (line k side heading n) ≡ comes_to board to (line j side heading m)
    walk-on j more e f = walk_first j more ∙ (λ i. e i || (f i && comes_to board to (line j side heading m)))

-- ---- Lines by steps are lines by files and ranks

-- k times on in a heading, from a file and a rank to others
abbrev pub Moved : Side → MoveDirection → ℕ → ℕ → ℕ → ℕ → ℕ → Type 0
Moved s h k f r g q = FileMoved h k f g × RankMoved s h k r q

moved-next : (s : Side) (h : MoveDirection) (f r g q : ℕ) → 1 ≤ f → 1 ≤ r → 1 ≤ g → 1 ≤ q → next_file h f ≡ g
    → next_rank s h r ≡ q → Moved s h 1 f r g q
moved-next First Forward f r g q a b c d file rank = (omega arith, omega arith)
moved-next Second Forward f r g q a b c d file rank = (omega arith, omega arith)
moved-next _ _ f r g q a b c d file rank = (omega arith, omega arith)

next-moved : (s : Side) (h : MoveDirection) (f r g q : ℕ) → Moved s h 1 f r g q
    → (next_file h f ≡ g) × (next_rank s h r ≡ q)
next-moved First Forward f r g q w = (omega (arith, w.0), omega (arith, w.1))
next-moved Second Forward f r g q w = (omega (arith, w.0), omega (arith, w.1))
next-moved _ _ f r g q w = (omega (arith, w.0), omega (arith, w.1))

moved-on : (s : Side) (h : MoveDirection) (k f r g q l p : ℕ) → Moved s h 1 f r g q → Moved s h (k + 1) g q l p
    → Moved s h (suc k + 1) f r l p
moved-on First Forward k f r g q l p a b = (omega (arith, a.0, b.0), omega (arith, a.1, b.1))
moved-on Second Forward k f r g q l p a b = (omega (arith, a.0, b.0), omega (arith, a.1, b.1))
moved-on _ _ k f r g q l p a b = (omega (arith, a.0, b.0), omega (arith, a.1, b.1))

-- the next square on the way to a later one
record NextOnTheWay (s : Side) (h : MoveDirection) (k f r l p : ℕ) : Type 0 where
  on_board : OnShogiBoard (next_file h f) (next_rank s h r)
  first : Moved s h 1 f r (next_file h f) (next_rank s h r)
  rest : Moved s h (k + 1) (next_file h f) (next_rank s h r) l p

on-the-way : (s : Side) (h : MoveDirection) (k f r l p : ℕ) → OnShogiBoard f r → OnShogiBoard l p
    → Moved s h (suc k + 1) f r l p → NextOnTheWay s h k f r l p
on-the-way First Forward k f r l p on there w = record {
  on_board = ((omega (arith, w.0), omega (arith, w.0)), (omega (arith, w.1), omega (arith, w.1)));
  first = (omega (arith, w.0), omega (arith, w.1));
  rest = (omega (arith, w.0), omega (arith, w.1));
}
on-the-way Second Forward k f r l p on there w = record {
  on_board = ((omega (arith, w.0), omega (arith, w.0)), (omega (arith, w.1), omega (arith, w.1)));
  first = (omega (arith, w.0), omega (arith, w.1));
  rest = (omega (arith, w.0), omega (arith, w.1));
}
on-the-way _ _ k f r l p on there w = record {
  on_board = ((omega (arith, w.0), omega (arith, w.0)), (omega (arith, w.1), omega (arith, w.1)));
  first = (omega (arith, w.0), omega (arith, w.1));
  rest = (omega (arith, w.0), omega (arith, w.1));
}

-- squares by file and rank
square-on : (n : ℕ) → n < 81 → OnShogiBoard (file_of n) (rank_of n)
square-on n h = ((omega arith, omega arith), (omega arith, omega arith))

number-file : (f r : ℕ) → OnShogiBoard f r → file_of (shogi_number f r) ≡ f
number-file f r on = omega (arith, on.0.0, on.0.1, on.1.0, on.1.1)

number-rank : (f r : ℕ) → OnShogiBoard f r → rank_of (shogi_number f r) ≡ r
number-rank f r on = omega (arith, on.0.0, on.0.1, on.1.0, on.1.1)

-- a list has the number at that place
abbrev pub HasAt : List ℕ → ℕ → ℕ → Type 0
HasAt xs k m = (k < length xs) × (get_or xs k 0 ≡ m)

module _ (side : Side) (heading : MoveDirection) where
  step-moved : (n m : ℕ) → n < 81 → step side heading n ≡ Some m → (m < 81) × IsMoved side heading 1 n m
  step-moved n m h e =
      let f = next_file heading (file_of n) in
      let r = next_rank side heading (rank_of n) in
      let w = square_at-some f r m (sym (step-square_at side heading n h) ∙ e) in
      let file : f ≡ file_of m = sym (number-file f r w.0) ∙ ap file_of w.1 in
      let rank : r ≡ rank_of m = sym (number-rank f r w.0) ∙ ap rank_of w.1 in (
        subst (λ l. l < 81) w.1 (number-below f r w.0),
        moved-next side heading (file_of n) (rank_of n) (file_of m) (rank_of m) (omega arith) (omega arith)
            (omega arith)
            (omega arith) file rank,
      )

  moved-step : (n m : ℕ) → n < 81 → m < 81 → IsMoved side heading 1 n m → step side heading n ≡ Some m
  moved-step n m h k w =
      let next = next-moved side heading (file_of n) (rank_of n) (file_of m) (rank_of m) w in
      let same : shogi_number (file_of m) (rank_of m) ≡ m = omega arith in
      step-square_at side heading n h ∙ (λ i. square_at (next.0 i) (next.1 i))
      ∙ square_at-number (file_of m) (rank_of m) (square-on m k) ∙ ap Some same

  moved-more : (k n m l : ℕ) → IsMoved side heading 1 n m → IsMoved side heading (k + 1) m l
      → IsMoved side heading (suc k + 1) n l
  moved-more k n m l = moved-on side heading k (file_of n) (rank_of n) (file_of m) (rank_of m) (file_of l) (rank_of l)

  moved-first : (k n l : ℕ) → n < 81 → l < 81 → IsMoved side heading (suc k + 1) n l → (m : ℕ) × (m < 81)
      × IsMoved side heading 1 n m × IsMoved side heading (k + 1) m l
  moved-first k n l h i w =
      let f = next_file heading (file_of n) in
      let r = next_rank side heading (rank_of n) in
      let a = on-the-way side heading k (file_of n) (rank_of n) (file_of l) (rank_of l) (square-on n h)
      (square-on l i) w
      in
      let file = sym (number-file f r a.on_board) in
      let rank = sym (number-rank f r a.on_board) in (
        shogi_number f r,
        number-below f r a.on_board,
        (
          subst (λ x. FileMoved heading 1 (file_of n) x) file a.first.0,
          subst (λ x. RankMoved side heading 1 (rank_of n) x) rank a.first.1,
        ),
        (
          subst (λ x. FileMoved heading (k + 1) x (file_of l)) file a.rest.0,
          subst (λ x. RankMoved side heading (k + 1) x (rank_of l)) rank a.rest.1,
        ),
      )

  pub line-moved : (j n k m : ℕ) → n < 81 → HasAt (line j side heading n) k m → (k < j) × (m < 81)
      × IsMoved side heading (k + 1) n m
  unfolding line
  line-moved zero n k m on h = absurd (omega (arith, h.0))
  line-moved (suc j) n zero m on h =
      elim (step side heading n) as (λ o. step side heading n ≡ o
      → HasAt (option_map_or (λ m. m ∷ line j side heading m) o []) 0 m → (0 < suc j) × (m < 81)
      × IsMoved side heading 1 n m) [
        | None ↦ λ e h. absurd (omega (arith, h.0))
        | Some s ↦ λ e h.
            let w = step-moved n s on e in
            (omega arith, subst (λ l. l < 81) h.1 w.0, subst (λ l. IsMoved side heading 1 n l) h.1 w.1)
      ] refl h
  line-moved (suc j) n (suc k) m on h =
      elim (step side heading n) as (λ o. step side heading n ≡ o
      → HasAt (option_map_or (λ m. m ∷ line j side heading m) o []) (suc k) m → (suc k < suc j) × (m < 81)
      × IsMoved side heading (suc k + 1) n m) [
        | None ↦ λ e h. absurd (omega (arith, h.0))
        | Some s ↦ λ e h.
            let v = step-moved n s on e in
            let w = line-moved j s k m v.0 (omega (arith, h.0), h.1) in
            (omega (arith, w.0), w.1, moved-more k n s m v.1 w.2)
      ] refl h

  pub moved-line : (j n k m : ℕ) → n < 81 → k < j → m < 81 → IsMoved side heading (k + 1) n m
      → HasAt (line j side heading n) k m
  moved-line zero n k m on h om w = absurd (omega arith)
  moved-line (suc j) n zero m on h om w = subst (λ xs. HasAt xs 0 m)
      (sym (line_suc j side heading n m (moved-step n m on om w)))
      (omega arith, refl)
  moved-line (suc j) n (suc k) m on h om w =
      let v = moved-first k n m on om w in
      let rest = moved-line j v.0 k m v.1 (omega arith) om v.3 in
      subst (λ xs. HasAt xs (suc k) m) (sym (line_suc j side heading n v.0 (moved-step n v.0 on v.1 v.2)))
      (omega (arith, rest.0), rest.1)
