-- Pieces that can leave their squares without exposing a king.
use Rattle.std.proofs.Common.{◌≡◌, ◌≢◌, ℕ, zero, suc, ◌+◌, ◌-◌, ◌<◌, Bool, true, false, ◌&&◌, Some, None, List, []}
use Rattle.std.proofs.Common.{◌∷◌, ◌⊎◌, inl, inr, refl, sym, ap, ◌∙◌, subst, arith, length, take, get_or, Option}
use Rattle.std.specs.Prelude.{not}
use Rattle.std.specs.Option.{option_map_or}
use Rattle.std.specs.Ordering.{eq_by_cmp, nat_cmp}
use Rattle.std.specs.List.{list_any}
use Rattle.std.specs.Cmp.{nat_cmp_total}
use Rattle.std.specs.FinMap as map
use Rattle.std.specs.FinSet as set
use Rattle.std.proofs.lemmas.Bool.{cases_eq, and_parts, and_from, both_ways, false_from_ne_true, not-true}
use Rattle.masks.specs.Words.{Numbers}
use Rattle.masks.specs.internal.Words.{Pops}
use Rattle.masks.specs.internal.Walks.{popped_kept}
use Rattle.squares.specs.declared.sides.Side.{Side}
use Rattle.squares.specs.declared.sides.Side.TheVariants.{First, Second}
use Rattle.squares.specs.declared.shogi.piece.SPiece.{SPiece}
use Rattle.squares.specs.declared.shogi.moves.SMove.{SMove}
use Rattle.squares.specs.declared.shogi.moves.SMove.TheVariants.{Step, Drop}
use Rattle.squares.specs.Sides.{same_side}
use Rattle.squares.specs.internal.Sides.{same_side-same}
use Rattle.squares.specs.ShogiBoard.{ShogiBoard}
use Rattle.squares.specs.ShogiGeometry.{file_of, rank_of}
use Rattle.squares.specs.ShogiSets.{is_king, ShogiPosition}
use Rattle.squares.specs.internal.ShogiSets.{holds_king}
use Rattle.squares.specs.internal.ShogiWords.{is_side}
use Rattle.squares.specs.internal.In.{In, list_any-finds}
use Rattle.shogi_moves.specs.declared.heading.MoveDirection.{MoveDirection}
use Rattle.shogi_moves.specs.declared.heading.MoveDirection.TheVariants.{Forward}
use Rattle.shogi_moves.specs.Reach.{step, line, king, KingAttacked}
use Rattle.shogi_moves.specs.internal.Search.{all_headings, attacked, king_attacked}
use Rattle.shogi_moves.specs.internal.Facing.{faced, faced_by, faced_along, seen}
use Rattle.shogi_moves.specs.internal.Kings.{AreKings}
use Rattle.shogi_moves.specs.Rules.{arrived, board_after}
use Rattle.shogi_moves.specs.internal.Pins.{is_unpinned, exposes_nothing}
use Rattle.shogi_moves.proofs.LineLemmas.{Moved, HasAt, line-moved}
use Rattle.shogi_moves.proofs.ReachLemmas.{In-all_headings}
use Rattle.shogi_moves.proofs.PlayLemmas.{tied_same, tied_other, get-cleared, get-cleared_other, arrived-king}
use Rattle.shogi_moves.proofs.AttackLemmas.{drop-safe, attacked-is, king_attacked-is, holds_king-is, king_attacked_before}
use Rattle.shogi_moves.proofs.FacingLemmas.{look-on, look-found}
use Rattle.shogi_moves.proofs.SeekLemmas.{any_more}

-- ---- A look along a heading without one piece

-- a line does not come back to its start
never-back : (s : Side) (h : MoveDirection) (k f r : ℕ) → Moved s h (k + 1) f r f r → ⊥
never-back First Forward k f r w = omega (arith, w.0, w.1)
never-back Second Forward k f r w = omega (arith, w.0, w.1)
never-back _ _ k f r w = omega (arith, w.0, w.1)

line-apart : (side : Side) (h : MoveDirection) (j n i : ℕ) → n < 81 → HasAt (line j side h n) i n → ⊥
line-apart side h j n i on has = never-back side h i (file_of n) (rank_of n) (line-moved side h j n i n on has).2

module _ (board : ShogiBoard) (side : Side) (h : MoveDirection) where
  -- a piece that is not on the squares
  faced-without : (n start : ℕ) (squares : List ℕ) → ((i : ℕ) → HasAt squares i n → ⊥)
      → faced (map.remove board n) side h start squares ≡ faced board side h start squares
  faced-without n start [] apart = refl
  faced-without n start (m ∷ ms) apart =
      let differs : m ≢ n = λ same. apart 0 (omega arith, same) in
      let rest = faced-without n (start + 1) ms (λ j has. apart (suc j) (omega (arith, has.0), has.1)) in
      (λ i. faced_by side h start (rest i) (get-cleared_other board n m differs i))

  -- an empty square stays empty
  none-without : (n m : ℕ) → map.get board m ≡ None → map.get (map.remove board n) m ≡ None
  none-without n m none =
      elim (cases_eq m n) [
        | inl same ↦ ap (map.get (map.remove board n)) same ∙ get-cleared board n
        | inr differs ↦ get-cleared_other board n m differs ∙ none
      ]

  module _ (k d n m : ℕ) (next : step side h n ≡ Some m) where
    -- past an empty square
    pub empty-without : (gone j : ℕ) → k ≡ j + 1 → map.get board m ≡ None
        → faced (map.remove board gone) side h d (line k side h n)
        ≡ faced (map.remove board gone) side h (d + 1) (line j side h m)
    empty-without gone j more none = look-on (map.remove board gone) side h k d n m next j more (none-without gone m none)

    module _ (piece : SPiece) (stands : map.get board m ≡ Some piece) where
      -- another piece than the first is gone
      pub other-without : (gone : ℕ) → m ≢ gone → 0 < k
          → faced (map.remove board gone) side h d (line k side h n) ≡ faced board side h d (line k side h n)
      other-without gone differs more =
          look-found (map.remove board gone) side h k d n m next more piece
          (get-cleared_other board gone m differs ∙ stands)
          ∙ sym (look-found board side h k d n m next more piece stands)

      -- the first piece is gone
      pub first-without : (gone j : ℕ) → m ≡ gone → m < 81 → k ≡ j + 1
          → faced (map.remove board gone) side h d (line k side h n) ≡ faced board side h (d + 1) (line j side h m)
      first-without gone j same on more =
          look-on (map.remove board gone) side h k d n m next j more
          (ap (map.get (map.remove board gone)) same ∙ get-cleared board gone)
          ∙ faced-without gone (d + 1) (line j side h m)
          (λ i has. line-apart side h j m i on (subst (HasAt (line j side h m) i) (sym same) has))

-- ---- All headings, and all kings

-- an attack along no heading so far
module _ (board : ShogiBoard) (side : Side) (square : ℕ) where
  pub none_faced : (h : MoveDirection) → seen board side square ≡ false → faced_along board side square h ≡ false
  unfolding seen
  none_faced h none = false_from_ne_true (faced_along board side square h)
      (λ is. let some = list_any-finds (faced_along board side square) all_headings h (In-all_headings h) is in cc)

  pub one_heading_more : (i : ℕ) (d : MoveDirection) → i < length all_headings
      → list_any (faced_along board side square) (take i all_headings) ≡ false
      → faced_along board side square (get_or all_headings i d) ≡ false
      → list_any (faced_along board side square) (take (i + 1) all_headings) ≡ false
  one_heading_more i d less so_far next =
      sym (any_more (faced_along board side square) all_headings i d false less (sym so_far)) ∙ next

-- ---- Sets of squares

-- a square that stays in a set when another one is taken out
still_in : (s : Numbers) (n q : ℕ) → q ≢ n → set.contains s q ≡ true → set.contains (set.remove s n) q ≡ true
still_in s n q differs has = set.contains-remove nat_cmp_total s n q ∙ (λ i. not (tied_other q n differs i) && has i)

pub gone_from : (s : Numbers) (n q : ℕ) → set.contains (set.remove s n) q ≡ true → n ≡ q → ⊥
gone_from s n q has same =
    let out : set.contains (set.remove s n) q ≡ false =
    set.contains-remove nat_cmp_total s n q
    ∙ ap (λ b. not b && set.contains s q) (ap (λ m. eq_by_cmp nat_cmp q m) same ∙ tied_same q) in
    cc

pub nothing_in : (s : Numbers) (q : ℕ) → s ≡ set.empty → set.contains s q ≡ true → ⊥
nothing_in s q none has =
    let out : set.contains s q ≡ false = ap (λ t. set.contains t q) none ∙ set.contains-empty nat_cmp q in
    cc

-- ---- Kings

-- a king that is not attacked
pub king_safe : (board : ShogiBoard) (side : Side) (k : ℕ) → king_attacked board side ≡ false
    → holds_king side (map.get board k) ≡ true → attacked board side k ≡ false
king_safe board side k safe holds =
    false_from_ne_true (attacked board side k)
    (λ is.
    let some = (king_attacked-is board side).1 (record {
      square = k;
      stands = (holds_king-is side (map.get board k)).0 holds;
      attacked = (attacked-is board side k).0 is;
    }) in
    cc)

-- a king that still stands after another piece left stood there before
king_stood : (board : ShogiBoard) (side : Side) (n k : ℕ) → map.get (map.remove board n) k ≡ Some (king side)
    → map.get board k ≡ Some (king side)
king_stood board side n k stands =
    elim (cases_eq k n) [
      | inl same ↦
          let gone : map.get (map.remove board n) k ≡ None =
          ap (map.get (map.remove board n)) same ∙ get-cleared board n in
          cc
      | inr differs ↦ sym (get-cleared_other board n k differs) ∙ stands
    ]

-- no king is exposed
kings_safe : (board : ShogiBoard) (side : Side) (n : ℕ)
    → ((k : ℕ) → holds_king side (map.get board k) ≡ true → attacked (map.remove board n) side k ≡ false)
    → king_attacked (map.remove board n) side ≡ false
kings_safe board side n each =
    false_from_ne_true (king_attacked (map.remove board n) side)
    (λ is.
    let w = (king_attacked-is (map.remove board n) side).0 is in
    let held = (holds_king-is side (map.get board w.square)).1 (king_stood board side n w.square w.stands) in
    let safe = each w.square held in
    let hit = (attacked-is (map.remove board n) side w.square).1 w.attacked in
    cc)

module _ (board : ShogiBoard) (side : Side) where
  -- of the kings but those in `rest` none is exposed if a piece of `free` leaves
  pub record Cleared (free rest : Numbers) : Type 0 where
    pub kings : (k : ℕ) → set.contains rest k ≡ true → holds_king side (map.get board k) ≡ true
    pub own : (n : ℕ) → set.contains free n ≡ true → is_side side (map.get board n) ≡ true
    pub common : (n : ℕ) → set.contains free n ≡ true → holds_king side (map.get board n) ≡ false
    pub safe : (n k : ℕ) → set.contains free n ≡ true → holds_king side (map.get board k) ≡ true
        → (set.contains rest k ≡ true) ⊎ (attacked (map.remove board n) side k ≡ false)

  pub cleared_first : (own kings free : Numbers) → ((q : ℕ) → set.contains own q ≡ is_side side (map.get board q))
      → AreKings board side kings → free ≡ set.difference own kings → Cleared free kings
  cleared_first own kings free are_own are_kings is =
      let parts = λ (n : ℕ) (e : set.contains free n ≡ true). and_parts (set.contains own n) (not (set.contains kings n))
      (sym (set.contains-difference nat_cmp_total own kings n) ∙ ap (λ s. set.contains s n) (sym is) ∙ e) in
      record {
        kings = λ k e. sym (are_kings k) ∙ e;
        own = λ n e. sym (are_own n) ∙ (parts n e).0;
        common = λ n e. sym (are_kings n) ∙ not-true (set.contains kings n) (parts n e).1;
        safe = λ n k e holds. inl (are_kings k ∙ holds);
      }

  pub cleared_more : (before after : Numbers) (k : ℕ) → Pops 0 81 before (Some k) after → (free new : Numbers)
      → ((n : ℕ) → set.contains new n ≡ true → set.contains free n ≡ true)
      → ((n : ℕ) → set.contains new n ≡ true → attacked (map.remove board n) side k ≡ false)
      → Cleared free before → Cleared new after
  cleared_more before after k pop free new kept safe so_far = record {
    kings = λ q e. so_far.kings q (popped_kept before k q (ap (λ s. set.contains s q) (sym pop.1) ∙ e));
    own = λ n e. so_far.own n (kept n e);
    common = λ n e. so_far.common n (kept n e);
    safe = λ n q e holds.
        elim (cases_eq q k) [
          | inl same ↦ inr (ap (attacked (map.remove board n) side) same ∙ safe n e)
          | inr differs ↦
              elim (so_far.safe n q (kept n e) holds) [
                | inl waits ↦ inl (ap (λ s. set.contains s q) pop.1 ∙ still_in before k q differs waits)
                | inr done ↦ inr done
              ]
        ];
  }

  pub cleared_all : (free rest : Numbers) → rest ≡ set.empty → Cleared free rest → (n : ℕ)
      → set.contains free n ≡ true → is_unpinned board side n ≡ true
  unfolding is_unpinned
  cleared_all free rest none so_far n e =
      let each = λ (k : ℕ) (holds : holds_king side (map.get board k) ≡ true).
      elim (so_far.safe n k e holds) as (λ _. attacked (map.remove board n) side k ≡ false) [
        | inl waits ↦ absurd (nothing_in rest k none waits)
        | inr done ↦ done
      ] in
      (λ i. (so_far.own n e i && not (so_far.common n e i)) && not (kings_safe board side n each i))

-- ---- A step of a piece that is not pinned

-- a piece of the side other than a king, without which no king is attacked
record Leaves (board : ShogiBoard) (side : Side) (n : ℕ) : Type 0 where
  piece : SPiece
  stands : map.get board n ≡ Some piece
  own : piece.side ≡ side
  common : is_king piece.role ≡ false
  safe : king_attacked (map.remove board n) side ≡ false

leaves : (board : ShogiBoard) (side : Side) (n : ℕ) → is_unpinned board side n ≡ true → Leaves board side n
unfolding is_unpinned
leaves board side n e =
    let w = and_parts (is_side side (map.get board n) && not (holds_king side (map.get board n)))
    (not (king_attacked (map.remove board n) side)) e in
    let v = and_parts (is_side side (map.get board n)) (not (holds_king side (map.get board n))) w.0 in
    let safe = not-true (king_attacked (map.remove board n) side) w.1 in
    elim (map.get board n) as (λ o. map.get board n ≡ o → is_side side o ≡ true → not (holds_king side o) ≡ true
    → Leaves board side n) [
      | None ↦ λ _ e _. cc
      | Some piece ↦ λ stands own no_king.
          let none = not-true (is_king piece.role && same_side piece.side side) no_king in
          record {
            piece = piece;
            stands = stands;
            own = same_side-same piece.side side own;
            common = false_from_ne_true (is_king piece.role)
                (λ is. let both = and_from (is_king piece.role) (same_side piece.side side) is own in cc);
            safe = safe;
          }
    ] refl v.0 v.1

step-safe : (p : ShogiPosition) (from to : ℕ) (promote : Bool) → is_unpinned p.board p.turn from ≡ true
    → king_attacked (board_after p (Step from to promote)) p.turn ≡ false
step-safe p from to promote e =
    let u = leaves p.board p.turn from e in
    let lifted = map.remove p.board from in
    let piece = arrived u.piece promote in
    let is : board_after p (Step from to promote) ≡ map.insert lifted to piece =
    ap (λ o. option_map_or (λ piece. map.insert lifted to (arrived piece promote)) o p.board) u.stands in
    let common : is_king piece.role ≡ false = arrived-king u.piece.role u.piece.side promote ∙ u.common in
    let safe : king_attacked (map.insert lifted to (record { side = p.turn; role = piece.role })) p.turn ≡ false =
    false_from_ne_true _
    (λ t.
    both_ways (king_attacked lifted p.turn) u.safe
    ((king_attacked-is lifted p.turn).1
    (king_attacked_before lifted p.turn to piece.role common ((king_attacked-is _ p.turn).0 t)))) in
    ap (λ b. king_attacked b p.turn) is
    ∙ ap (λ s. king_attacked (map.insert lifted to (record { side = s; role = piece.role })) p.turn) u.own ∙ safe

pub exposes-nothing : (p : ShogiPosition) (checked : Bool) (unpinned : Numbers) (m : SMove)
    → checked ≡ king_attacked p.board p.turn
    → ((n : ℕ) → set.contains unpinned n ≡ true → is_unpinned p.board p.turn n ≡ true)
    → exposes_nothing checked unpinned m ≡ true → king_attacked (board_after p m) p.turn ≡ false
exposes-nothing p checked unpinned (Step from to promote) known leaves e = step-safe p from to promote (leaves from e)
exposes-nothing p checked unpinned (Drop kind to) known leaves e =
    drop-safe p kind to (sym known ∙ not-true checked e)
