-- The squares on which a piece lands determine what it takes.
use Rattle.std.proofs.Common.{◌≡◌, ◌≢◌, ℕ, suc, ◌+◌, ◌<◌, true, List, [], ◌∷◌, ◌++◌, length, get_or, Option, Some, None}
use Rattle.std.proofs.Common.{refl, sym, ap, ◌∙◌, subst, arith}
use Rattle.std.specs.FinSet as set
use Rattle.squares.specs.declared.draughts.direction.Direction.{Direction}
use Rattle.squares.specs.declared.draughts.direction.Direction.TheVariants.{UpLeft, UpRight, DownLeft, DownRight}
use Rattle.squares.specs.declared.draughts.piece.DPiece.{DPiece}
use Rattle.squares.specs.DraughtsSets.{Squares}
use Rattle.squares.specs.DraughtsGeometry.{ray}
use Rattle.squares.specs.internal.DraughtsGeometry.{OnBoard, IsMoved}
use Rattle.squares.specs.internal.DraughtsOnBoard.{AllOnBoard, ray-on_board}
use Rattle.squares.proofs.Proved.{ray-moved}
use Rattle.draughts_moves.specs.Capture.{Cells, AllClear, is_enemy, Jump, Route}
use Rattle.draughts_moves.proofs.Proved.{Jump-from_on}

pub inside : (xs ys : List ℕ) (y : ℕ) → AllOnBoard (xs ++ y ∷ ys) → OnBoard y
inside [] ys y on = on.0
inside (x ∷ xs) ys y on = inside xs ys y on.1

-- the place of an element of a list
place : (xs ys : List ℕ) (y : ℕ) → (k : ℕ) × (k < length (xs ++ y ∷ ys)) × (get_or (xs ++ y ∷ ys) k 0 ≡ y)
place [] ys y = (0, omega arith, refl)
place (x ∷ xs) ys y = let w = place xs ys y in (suc w.0, omega (arith, w.1), w.2)

joined : (xs : List ℕ) (v : ℕ) (ys : List ℕ) (l : ℕ) (zs : List ℕ) → (before : List ℕ)
    × (xs ++ v ∷ (ys ++ l ∷ zs) ≡ before ++ l ∷ zs)
joined [] v ys l zs = (v ∷ ys, refl)
joined (x ∷ xs) v ys l zs = let w = joined xs v ys l zs in (x ∷ w.0, ap (λ r. x ∷ r) w.1)

module _ (b : Cells) (q : DPiece) (t : Squares) (s v l : ℕ) (j : Jump b q t s v l) where
  landing : (before : List ℕ) × (ray j.0 s ≡ before ++ l ∷ j.1.after)
  landing = let w = joined j.1.before v j.1.between l j.1.after in (w.0, j.1.along ∙ w.1)

  pub Jump-to_on : OnBoard l
  Jump-to_on = inside landing.0 j.1.after l (subst AllOnBoard landing.1 (ray-on_board j.0 s))

  pub Jump-moved : (k : ℕ) × IsMoved j.0 (k + 1) s l
  Jump-moved =
      let w = place landing.0 j.1.after l in
      let is = landing.1 in (
        w.0,
        (ray-moved j.0 s w.0 l (Jump-from_on b q t s v l j)
            (subst (λ xs. (w.0 < length xs) × (get_or xs w.0 0 ≡ l)) (sym is) (w.1, w.2))).1,
      )

-- two directions lead to different squares
direction : (d e : Direction) (k i n m : ℕ) → IsMoved d (k + 1) n m → IsMoved e (i + 1) n m → d ≡ e
direction UpLeft UpLeft k i n m h g = refl
direction UpRight UpRight k i n m h g = refl
direction DownLeft DownLeft k i n m h g = refl
direction DownRight DownRight k i n m h g = refl
direction UpLeft UpRight k i n m h g = absurd (omega arith)
direction UpLeft DownLeft k i n m h g = absurd (omega arith)
direction UpLeft DownRight k i n m h g = absurd (omega arith)
direction UpRight UpLeft k i n m h g = absurd (omega arith)
direction UpRight DownLeft k i n m h g = absurd (omega arith)
direction UpRight DownRight k i n m h g = absurd (omega arith)
direction DownLeft UpLeft k i n m h g = absurd (omega arith)
direction DownLeft UpRight k i n m h g = absurd (omega arith)
direction DownLeft DownRight k i n m h g = absurd (omega arith)
direction DownRight UpLeft k i n m h g = absurd (omega arith)
direction DownRight UpRight k i n m h g = absurd (omega arith)
direction DownRight DownLeft k i n m h g = absurd (omega arith)

enemy-stands : (q : DPiece) (o : Option DPiece) → is_enemy q o ≡ true → o ≢ None
enemy-stands q None e = λ f. cc
enemy-stands q (Some p) e = λ f. cc

-- the first piece on a line
first_piece : (b : Cells) (xs : List ℕ) (v : ℕ) (rest ys : List ℕ) (w : ℕ) (more : List ℕ)
    → xs ++ v ∷ rest ≡ ys ++ w ∷ more → AllClear b xs → AllClear b ys → b v ≢ None → b w ≢ None → v ≡ w
first_piece b [] v rest [] w more e clear clear' stands stands' = cc
first_piece b [] v rest (y ∷ ys) w more e clear clear' stands stands' = let is : v ≡ y = cc in
    absurd (stands (ap b is ∙ clear'.0))
first_piece b (x ∷ xs) v rest [] w more e clear clear' stands stands' = let is : x ≡ w = cc in
    absurd (stands' (ap b (sym is) ∙ clear.0))
first_piece b (x ∷ xs) v rest (y ∷ ys) w more e clear clear' stands stands' =
    let tails : xs ++ v ∷ rest ≡ ys ++ w ∷ more = cc in
    first_piece b xs v rest ys w more tails clear.1 clear'.1 stands stands'

-- a jump is over one piece
pub Jump-over : (b : Cells) (q : DPiece) (t : Squares) (s v w l : ℕ) → Jump b q t s v l → Jump b q t s w l → v ≡ w
Jump-over b q t s v w l j k =
    let here = Jump-moved b q t s v l j in
    let there = Jump-moved b q t s w l k in
    let d = direction j.0 k.0 here.0 there.0 s l here.1 there.1 in
    let line = sym j.1.along ∙ ap (λ e. ray e s) d ∙ k.1.along in
    first_piece b j.1.before v _ k.1.before w _ line j.1.clear_before k.1.clear_before (enemy-stands q (b v) j.1.enemy)
    (enemy-stands q (b w) k.1.enemy)

-- routes with the same landings take the same
pub Route-taken : (b : Cells) (q : DPiece) (ls : List ℕ) (t : Squares) (s : ℕ) (all other : Squares) (to end : ℕ)
    → Route b q t s ls all to → Route b q t s ls other end → all ≡ other
Route-taken b q [] t s all other to end r u = sym r.0 ∙ u.0
Route-taken b q (l ∷ ls) t s all other to end r u =
    let over = Jump-over b q t s r.0 u.0 l r.1 u.1 in
    Route-taken b q ls (set.insert t r.0) l all other to end r.2
    (subst (λ v. Route b q (set.insert t v) l ls other end) (sym over) u.2)

-- where a route begins and lands is on the board
pub Route-on : (b : Cells) (q : DPiece) (ls : List ℕ) (t : Squares) (s : ℕ) (all : Squares) (to : ℕ)
    → Route b q t s ls all to → AllOnBoard ls
Route-on b q [] t s all to r = tt
Route-on b q (l ∷ ls) t s all to r = (Jump-to_on b q t s r.0 l r.1, Route-on b q ls (set.insert t r.0) l all to r.2)

pub Route-from_on : (b : Cells) (q : DPiece) (ls : List ℕ) (t : Squares) (s : ℕ) (all : Squares) (to : ℕ)
    → 0 < length ls → Route b q t s ls all to → OnBoard s
Route-from_on b q [] t s all to h r = absurd (omega arith)
Route-from_on b q (l ∷ ls) t s all to h r = Jump-from_on b q t s r.0 l r.1

pub front-on : (xs : List ℕ) (y : ℕ) → AllOnBoard (xs ++ y ∷ []) → AllOnBoard xs × OnBoard y
front-on [] y on = (tt, on.0)
front-on (x ∷ xs) y on = let w = front-on xs y on.1 in ((on.0, w.0), w.1)
