-- The computed test whether a piece reaches a square is the relation.
use Rattle.std.proofs.Common.{◌≡◌, ℕ, ◌<◌, Bool, true, false, cond, ◌&&◌, ◌||◌, nat_eq, Option, Some, None, List, []}
use Rattle.std.proofs.Common.{◌∷◌, ◌++◌, inl, inr, refl, sym, ap, ◌∙◌, subst, rules, ◌≤◌, length, arith}
use Rattle.std.specs.Prelude.{is_none}
use Rattle.std.specs.FinMap as map
use Rattle.std.proofs.Math.Bool.{or-true}
use Rattle.std.proofs.lemmas.Bool.{cases_lt, le-ltb, and_parts, eqb-true, eq-eqb}
use Rattle.squares.specs.declared.sides.Side.{Side}
use Rattle.squares.specs.declared.shogi.piece.SPiece.{SPiece}
use Rattle.squares.specs.ShogiBoard.{ShogiBoard}
use Rattle.squares.specs.ShogiGeometry.{file_of, rank_of}
use Rattle.squares.specs.internal.In.{In, list_any-found, list_any-finds}
use Rattle.shogi_moves.specs.declared.heading.MoveDirection.{MoveDirection}
use Rattle.shogi_moves.specs.declared.heading.MoveDirection.TheVariants.{Forward}
use Rattle.shogi_moves.specs.Reach.{next_file, next_rank, square_at, step, line, range, AllClear, Reach}
use Rattle.shogi_moves.specs.internal.Search.{all_headings, comes_to, piece_reaches}
use Rattle.shogi_moves.proofs.LineLemmas.{line-edge, HasAt, line-moved}

pub In-all_headings : (heading : MoveDirection) → In heading all_headings
In-all_headings Forward = inl refl
In-all_headings _ = search (rules, inl, inr) depth 14

-- y stands on the line, and the squares before it are empty
record Comes (board : ShogiBoard) (y : ℕ) (squares : List ℕ) : Type 0 where
  before : List ℕ
  after : List ℕ
  along : squares ≡ before ++ y ∷ after
  clear : AllClear board before

pub is_none-none : {A : Type 0} (o : Option A) → is_none o ≡ true → o ≡ None
is_none-none None e = refl
is_none-none (Some a) e = cc

comes_to-sound : (board : ShogiBoard) (y : ℕ) (ns : List ℕ) → comes_to board y ns ≡ true → Comes board y ns
comes_to-sound board y [] e = cc
comes_to-sound board y (n ∷ ns) e =
    elim (nat_eq n y) as (λ c. nat_eq n y ≡ c → (c || (is_none (map.get board n) && comes_to board y ns)) ≡ true
    → Comes board y (n ∷ ns)) [
      | true ↦ λ here _.
          record { before = []; after = ns; along = ap (λ m. m ∷ ns) (eqb-true n y here); clear = tt }
      | false ↦ λ _ e.
          let w = and_parts (is_none (map.get board n)) (comes_to board y ns) e in
          let c = comes_to-sound board y ns w.1 in
          record {
            before = n ∷ c.before;
            after = c.after;
            along = ap (λ ms. n ∷ ms) c.along;
            clear = (is_none-none (map.get board n) w.0, c.clear);
          }
    ] refl e

comes_to-split : (board : ShogiBoard) (y : ℕ) (before after : List ℕ) → AllClear board before
    → comes_to board y (before ++ y ∷ after) ≡ true
comes_to-split board y [] after clear = ap (λ c. c || (is_none (map.get board y) && comes_to board y after))
    (eq-eqb y y refl)
comes_to-split board y (n ∷ before) after clear =
    (λ i. nat_eq n y || (is_none (clear.0 i) && comes_to-split board y before after clear.1 i)) ∙ or-true (nat_eq n y)

module _ (board : ShogiBoard) (piece : SPiece) (x y : ℕ) where
  abbrev goes : MoveDirection → Bool
  goes heading = comes_to board y (line (range piece.role heading) piece.side heading x)

  pub piece_reaches-sound : map.get board x ≡ Some piece → piece_reaches board piece x y ≡ true → Reach board piece x y
  unfolding piece_reaches
  piece_reaches-sound stands e =
      let w = list_any-found goes all_headings e in
      let c = comes_to-sound board y (line (range piece.role w.0) piece.side w.0 x) w.2 in
      record { stands = stands; heading = w.0; before = c.before; after = c.after; along = c.along; clear = c.clear }

  pub piece_reaches-complete : Reach board piece x y → piece_reaches board piece x y ≡ true
  unfolding piece_reaches
  piece_reaches-complete r =
      list_any-finds goes all_headings r.heading (In-all_headings r.heading)
      (ap (comes_to board y) r.along ∙ comes_to-split board y r.before r.after r.clear)

-- lines stay on the board, and begin on it
has-split : (before after : List ℕ) (y : ℕ) → HasAt (before ++ y ∷ after) (length before) y
has-split [] after y = (omega arith, refl)
has-split (x ∷ before) after y = let w = has-split before after y in (omega (arith, w.0), w.1)

step-none : (side : Side) (heading : MoveDirection) (n : ℕ) → 81 ≤ n → step side heading n ≡ None
unfolding step
step-none side heading n off =
    ap (λ c. cond c (square_at (next_file heading (file_of n)) (next_rank side heading (rank_of n))) None)
    (le-ltb n 81 off)

pub Reach-on : (board : ShogiBoard) (piece : SPiece) (x y : ℕ) → Reach board piece x y → (x < 81) × (y < 81)
Reach-on board piece x y r =
    let far = range piece.role r.heading in
    let split = has-split r.before r.after y in
    elim (cases_lt x 81) [
      | inl on ↦
          let at = subst (λ ms. HasAt ms (length r.before) y) (sym r.along) split in
          (on, (line-moved piece.side r.heading far x (length r.before) y on at).1)
      | inr off ↦
          let none = line-edge far piece.side r.heading x (step-none piece.side r.heading x off) in
          absurd (omega (arith, ap length (sym none ∙ r.along), split.0))
    ]
