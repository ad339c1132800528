-- Pieces that take nothing, and pieces that go nowhere, by sets of squares.
use Rattle.std.proofs.Common.{◌≡◌, ℕ, Bool, true, false, not, ◌&&◌, ◌||◌, nat_eq, inl, inr, Option, Some, None, refl}
use Rattle.std.proofs.Common.{List, [], ◌∷◌, ◌++◌, sym, ap, ◌∙◌}
use Rattle.std.specs.Prelude.{is_none, is_some}
use Rattle.std.specs.Cmp.{nat_cmp_total, unsigned_tied}
use Rattle.std.specs.Option.{option_map_or}
use Rattle.std.specs.FinMap as map
use Rattle.std.specs.FinSet as set
use Rattle.std.proofs.Math.Bool.{and-false}
use Rattle.std.proofs.lemmas.Bool.{cases_Bool, and_cases, and_parts, or_parts, not-true, false≢true}
use Rattle.squares.specs.declared.draughts.direction.Direction.{Direction}
use Rattle.squares.specs.declared.draughts.direction.Direction.TheVariants.{UpLeft, UpRight, DownLeft, DownRight}
use Rattle.squares.specs.declared.draughts.piece.DPiece.{DPiece}
use Rattle.squares.specs.declared.sides.Side.{Side}
use Rattle.squares.specs.declared.sides.Side.TheVariants.{First, Second}
use Rattle.squares.specs.Sides.{same_side, other}
use Rattle.squares.specs.internal.Sides.{same_side-of}
use Rattle.squares.specs.DraughtsBoard.{Board, Position}
use Rattle.squares.specs.internal.DraughtsBoard.{is_of}
use Rattle.squares.specs.internal.DraughtsKept.{is_king}
use Rattle.squares.specs.internal.DraughtsMarks.{nat_eq-same}
use Rattle.squares.specs.DraughtsSets.{Squares}
use Rattle.squares.specs.DraughtsGeometry.{step, ray, line}
use Rattle.squares.specs.internal.DraughtsGeometry.{OnBoard, line-step}
use Rattle.squares.specs.internal.DraughtsOnBoard.{ray-off, step-on_board}
use Rattle.squares.proofs.Proved.{two_steps-apart}
use Rattle.draughts_moves.specs.Capture.{Cells, is_enemy, without}
use Rattle.draughts_moves.specs.internal.Listing.{quiet_in_order}
use Rattle.draughts_moves.specs.Search.{line_jumps, own_at, greatest_at}
use Rattle.draughts_moves.specs.internal.Search.{AreEnemies, AreExposed, faces, takes, next_in}
use Rattle.draughts_moves.specs.Search.{steps}
use Rattle.draughts_moves.specs.internal.Search.{next_before, is_beside, is_before}
use Rattle.draughts_moves.proofs.Basics.{option_cases, one_of, one_of-none, one_of-false}
use Rattle.draughts_moves.proofs.ClearLemmas.{AreEmpty, ahead-none, steps-first, steps-second}
use Rattle.std.proofs.lemmas.List.Folds.{list_any-append}
use Rattle.draughts_moves.proofs.LineLemmas.{is_in, distinct, ray-distinct, any, any-jumps, greatest-none, man_by_steps}
use Rattle.draughts_moves.proofs.LineLemmas.{man-takes, first_on, line-split, king_by_first, king-takes}
use Rattle.draughts_moves.proofs.ListLemmas.{quiet-none}
use Rattle.draughts_moves.proofs.MostLemmas.{own_at-is, greatest_at-own, greatest_at-none, not_empty}
use Rattle.draughts_moves.proofs.StepLemmas.{is_step-own, is_step-none}

enemy_sides : (mine theirs : Side) → not (same_side mine theirs) ≡ same_side theirs (other mine)
enemy_sides First First = refl
enemy_sides First Second = refl
enemy_sides Second First = refl
enemy_sides Second Second = refl

pub enemy-is : (q : DPiece) (o : Option DPiece) → is_enemy q o ≡ is_of (other q.side) o
enemy-is q None = refl
enemy-is q (Some r) = enemy_sides q.side r.side

-- the set has the squares of a side's pieces
abbrev pub AreOf : Position → Side → Squares → Type 0
AreOf p side s = (n : ℕ) → set.contains s n ≡ is_of side (map.get p.board n)

either_side : (side : Side) → (same_side side First || same_side side Second) ≡ true
either_side First = refl
either_side Second = refl

-- the squares of the pieces of both sides
pub pieces-are : (p : Position) (first second : Squares) → AreOf p First first → AreOf p Second second → (n : ℕ)
    → set.contains (set.union first second) n ≡ is_some (map.get p.board n)
pieces-are p first second of_first of_second n =
    rw (set.contains-union nat_cmp_total first second n, of_first n, of_second n)
    (elim (option_cases (map.get p.board n)) [ inl e ↦ rw e | inr w ↦ rw w.1 (either_side w.0.side) ])

-- the pieces but one are those that stand once it has left
pub others-are : (board : Board) (pieces : Squares) (x : ℕ)
    → ((n : ℕ) → set.contains pieces n ≡ is_some (map.get board n)) → (n : ℕ)
    → set.contains (set.remove pieces x) n ≡ is_some (without board x n)
others-are board pieces x are n =
    rw (set.contains-remove nat_cmp_total pieces x n, unsigned_tied n x, are n)
    (elim (cases_Bool (nat_eq n x)) [ inl e ↦ rw e | inr e ↦ rw e ])

-- the squares of what a piece can take
pub prey-is : (board : Board) (q : DPiece) (x : ℕ) (taken enemies : Squares)
    → ((n : ℕ) → set.contains enemies n ≡ is_of (other q.side) (map.get board n)) → (n : ℕ)
    → set.contains (set.remove (set.difference enemies taken) x) n
    ≡ (is_enemy q (without board x n) && not (set.contains taken n))
prey-is board q x taken enemies are n =
    rw (set.contains-remove nat_cmp_total (set.difference enemies taken) x n, unsigned_tied n x)
    (rw (set.contains-difference nat_cmp_total enemies taken n, are n, ← enemy-is q (map.get board n))
    (elim (cases_Bool (nat_eq n x)) [ inl e ↦ rw e | inr e ↦ rw e ]))

-- the kings of which it is not known that they take nothing
abbrev pub AreAble : Position → Squares → Type 0
AreAble p able = (n : ℕ) (q : DPiece) → own_at p n ≡ Some q → q.king ≡ true → set.contains able n ≡ false
    → greatest_at p n ≡ 0

-- the squares of the enemies with an empty square next to them
pub exposed-is : (p : Position) (enemies empty : Squares) → AreEnemies p enemies → AreEmpty p empty → (d : Direction)
    (n : ℕ) → (set.contains enemies n && next_in empty d n)
    ≡ (is_of (other p.turn) (map.get p.board n) && option_map_or (λ l. is_none (map.get p.board l)) (step d n) false)
exposed-is p enemies empty are free d n =
    rw (are n) (elim (option_cases (step d n))
    [ inl e ↦ rw e | inr w ↦ rw (w.1, free w.0 (step-on_board d n w.0 w.1)) ])

module _ (p : Position) (x : ℕ) (q : DPiece) (own : own_at p x ≡ Some q) where
  pub own_in : (mine : Squares) → AreOf p p.turn mine → set.contains mine x ≡ true
  own_in mine are = let stands = own_at-is p x q own in
      are x ∙ ap (is_of p.turn) stands.0 ∙ same_side-of q.side p.turn stands.1

  abbrev b : Cells
  b = without p.board x

  abbrev is_open : Cells → Direction → ℕ → Bool
  is_open cells d v = option_map_or (λ l. is_none (cells l)) (step d v) false

  -- what is no enemy with an empty square behind it, other than the one where the piece stands, is not taken
  takes_none : (d : Direction) (v : ℕ) → ((l : ℕ) → step d v ≡ Some l → nat_eq l x ≡ false)
      → (is_of (other p.turn) (map.get p.board v) && is_open (map.get p.board) d v) ≡ false
      → takes b q set.empty d v ≡ false
  takes_none d v apart none =
      let behind : is_open b d v ≡ is_open (map.get p.board) d v = elim (option_cases (step d v))
      [ inl e ↦ rw e | inr w ↦ rw (w.1, apart w.0 w.1) ] in
      elim (cases_Bool (nat_eq v x)) [
        | inl same ↦ rw same
        | inr far ↦
            rw (far, behind, enemy-is q (map.get p.board v), (own_at-is p x q own).1)
            (elim (and_cases (is_of (other p.turn) (map.get p.board v)) (is_open (map.get p.board) d v) none)
            [ inl e ↦ rw e | inr e ↦ rw e (and-false _) ])
      ]

  -- a piece with no jump in any direction takes nothing
  idle : ((d : Direction) → any (line_jumps b q set.empty (ray d x)) ≡ false) → greatest_at p x ≡ 0
  idle none = greatest_at-own p x q own
      ∙ greatest-none b q set.empty x (any-jumps b q set.empty x ∙ one_of-false _ none)

  -- a man with no enemy beside it that has an empty square behind it
  module _ (enemies empty : Squares) (are : AreEnemies p enemies) (free : AreEmpty p empty) (man : q.king ≡ false) where
    beside_none : (d : Direction) → next_before enemies empty d x ≡ false
        → any (line_jumps b q set.empty (ray d x)) ≡ false
    beside_none d none = rw man (elim (option_cases (step d x)) [
      | inl e ↦ rw (man_by_steps b q set.empty d x, e)
      | inr w ↦ man-takes b q set.empty d x w.0 w.1
          ∙ takes_none d w.0 (λ l next. two_steps-apart d x w.0 l w.1 next)
          (sym (exposed-is p enemies empty are free d w.0) ∙ (rw w.1 at none))
    ])

    pub none_beside : is_beside enemies empty x ≡ false → greatest_at p x ≡ 0
    none_beside e =
        let near : Direction → Bool = λ d. next_before enemies empty d x in
        let last = or_parts ((near UpLeft || near UpRight) || near DownLeft) (near DownRight) e in
        let third = or_parts (near UpLeft || near UpRight) (near DownLeft) last.0 in
        let two = or_parts (near UpLeft) (near UpRight) third.0 in
        idle (λ d. beside_none d (elim d as (λ way. near way ≡ false)
        [ UpLeft ↦ two.0 | UpRight ↦ two.1 | DownLeft ↦ third.1 | DownRight ↦ last.1 ]))

  -- a king whose first piece on the way is no enemy with an empty square behind it
  module _ (king : q.king ≡ true) (pieces : Squares)
      (are : (n : ℕ) → set.contains pieces n ≡ is_some (map.get p.board n)) where
    -- a square behind the first piece is not where the line begins
    behind_first : (d : Direction) (v : ℕ) (before : List ℕ) → ray d x ≡ before ++ v ∷ ray d v → (l : ℕ)
        → step d v ≡ Some l → nat_eq l x ≡ false
    unfolding ray
    behind_first d v before along l next =
        let on : OnBoard x = elim (ray-off d x)
        [ inl on ↦ on | inr none ↦ absurd (not_empty before (ray d v) v (sym along ∙ none)) ] in
        let apart = not-true _ (and_parts (not (is_in x (ray d x))) (distinct (ray d x)) (ray-distinct d x on)).0 in
        let rest = (or_parts (is_in x before) (is_in x (v ∷ ray d v))
        (sym (list_any-append (λ m. nat_eq m x) before (v ∷ ray d v)) ∙ (rw along at apart))).1 in
        let far = (or_parts (nat_eq v x) (is_in x (ray d v)) rest).1 in
        (or_parts (nat_eq l x) (is_in x (line 8 d l)) (rw (line-step 9 8 d v l next refl) at far)).0

    faces_along : (d : Direction) (these : Squares) → AreExposed p d these
        → faces (set.remove pieces x) these d x ≡ false → any (line_jumps b q set.empty (ray d x)) ≡ false
    faces_along d these exposed none =
        let rest = set.remove pieces x in
        let stand = others-are p.board pieces x are in
        rw king (elim (option_cases (first_on b d rest stand x)) [
          | inl e ↦ rw (king_by_first b d rest stand q set.empty x, e)
          | inr w ↦
              let s = line-split b d rest stand x in
              king-takes b d rest stand q set.empty x w.0 w.1
              ∙ takes_none d w.0 (behind_first d w.0 s.0 (rw w.1 at s.2)) (sym (exposed w.0) ∙ (rw w.1 at none))
        ])

    pub faces_none : (these : Direction → Squares) → ((d : Direction) → AreExposed p d (these d))
        → one_of (λ d. faces (set.remove pieces x) (these d) d x) ≡ false → greatest_at p x ≡ 0
    faces_none these exposed none = idle (λ d. faces_along d (these d) (exposed d)
        (one_of-none (λ way. faces (set.remove pieces x) (these way) way x) none d))

-- A man of the side to move with no enemy beside it takes nothing, nor does a king that is not of those that can jump,
-- nor a piece of the other side.
pub takes_nothing : (p : Position) (own enemies empty near kings : Squares) → AreOf p p.turn own → AreEnemies p enemies
    → AreEmpty p empty → ((n : ℕ) → set.contains near n ≡ is_beside enemies empty n) → AreAble p kings → (n : ℕ)
    → set.contains (set.union (set.intersection own near) kings) n ≡ false → greatest_at p n ≡ 0
takes_nothing p own enemies empty near kings are_own are free are_near are_kings n e =
    elim (option_cases (own_at p n)) [
      | inl none ↦ greatest_at-none p n none
      | inr w ↦
          let both = or_parts (set.contains near n) (set.contains kings n)
          (rw (
            set.contains-union nat_cmp_total,
            set.contains-intersection nat_cmp_total,
            own_in p n w.0 w.1 own are_own,
          )
          at e) in
          elim (cases_Bool w.0.king) [
            | inl king ↦ are_kings n w.0 w.1 king both.1
            | inr man ↦ none_beside p n w.0 w.1 enemies empty are free man (sym (are_near n) ∙ both.0)
          ]
    ]

-- A man of the side to move with no empty square before it goes nowhere, nor does a piece of the other side.
module _ (p : Position) (empty : Squares) (free : AreEmpty p empty) where
  no_steps : (x n : ℕ) (q : DPiece) (side : Side) → q.side ≡ side → q.king ≡ false → is_before side empty x ≡ false
      → is_in n (steps (map.get p.board) q x) ≡ false
  no_steps x n q First side man none =
      let both = or_parts (next_in empty UpLeft x) (next_in empty UpRight x) none in
      sym (steps-first (map.get p.board) q x man side n)
      ∙ rw (ahead-none p empty free UpLeft x both.0, ahead-none p empty free UpRight x both.1)
  no_steps x n q Second side man none =
      let both = or_parts (next_in empty DownLeft x) (next_in empty DownRight x) none in
      sym (steps-second (map.get p.board) q x man side n)
      ∙ rw (ahead-none p empty free DownLeft x both.0, ahead-none p empty free DownRight x both.1)

  pub goes_nowhere : (own before kings : Squares) → AreOf p p.turn own
      → ((n : ℕ) → set.contains before n ≡ is_before p.turn empty n)
      → ((n : ℕ) → set.contains kings n ≡ is_king (map.get p.board n)) → (n : ℕ)
      → set.contains (set.intersection own (set.union before kings)) n ≡ false → quiet_in_order p n ≡ []
  goes_nowhere own before kings are_own are_before are_kings n e =
      elim (option_cases (own_at p n)) [
        | inl none ↦ quiet-none p n (λ y. is_step-none p n y none)
        | inr w ↦
            let q = w.0 in
            let stands = own_at-is p n q w.1 in
            let both = or_parts (set.contains before n) (set.contains kings n)
            (rw (
              set.contains-intersection nat_cmp_total,
              set.contains-union nat_cmp_total,
              own_in p n q w.1 own are_own,
            )
            at e) in
            let man : q.king ≡ false = sym (ap is_king stands.0) ∙ sym (are_kings n) ∙ both.1 in
            quiet-none p n (λ y. is_step-own p n y q w.1
            ∙ no_steps n y q p.turn stands.1 man (sym (are_before n) ∙ both.0))
      ]

-- one that takes nothing is left out
pub less_able : (p : Position) (able : Squares) (x : ℕ) → AreAble p able
    → ((q : DPiece) → own_at p x ≡ Some q → q.king ≡ true → greatest_at p x ≡ 0) → AreAble p (set.remove able x)
less_able p able x all none n q own king e = elim (cases_Bool (nat_eq n x)) [
  | inl same ↦ rw (nat_eq-same n x same) (none q (rw (nat_eq-same n x same) at own) king)
  | inr far ↦ all n q own king (rw (set.contains-remove nat_cmp_total able x n, unsigned_tied n x, far) at e)
]

-- at first all kings of the side to move are left
pub first_able : (p : Position) (own kings : Squares) → AreOf p p.turn own
    → ((n : ℕ) → set.contains kings n ≡ is_king (map.get p.board n)) → AreAble p (set.intersection own kings)
first_able p own kings are_own are_kings n q is king e =
    absurd
    (false≢true
    (sym (rw (
      set.contains-intersection nat_cmp_total,
      own_in p n q is own are_own,
      are_kings n,
      (own_at-is p n q is).0,
      king,
    ) at e)))
