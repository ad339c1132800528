-- What a walk over a side's squares counts, and the computed answer to a declaration.
use Rattle.std.proofs.Common.{◌≡◌, ℕ, zero, suc, ◌+◌, ◌≤◌, Bool, true, false, cond, ◌&&◌, Option, Some, None, ◌∷◌}
use Rattle.std.proofs.Common.{sum_by, refl, sym, ap, ◌∙◌, arith, add-one}
use Rattle.std.specs.Prelude.{IsTrue, ◌↔◌, not}
use Rattle.std.specs.List.{list_any, range_with_len}
use Rattle.std.specs.FinMap as map
use Rattle.std.specs.FinSet as set
use Rattle.std.proofs.lemmas.List.Sums.{sum_by-cons, count_by-le-length}
use Rattle.masks.specs.Words.{Numbers, passing}
use Rattle.masks.specs.internal.Words.{ascending}
use Rattle.squares.specs.declared.sides.Side.{Side}
use Rattle.squares.specs.declared.shogi.piece.SPiece.{SPiece}
use Rattle.squares.specs.ShogiBoard.{ShogiBoard}
use Rattle.squares.specs.ShogiSets.{is_king}
use Rattle.squares.specs.internal.ShogiSets.{holds_king}
use Rattle.squares.specs.internal.ShogiWords.{is_side}
use Rattle.shogi_moves.specs.internal.Kings.{AreKings}
use Rattle.shogi_moves.specs.Reach.{king}
use Rattle.shogi_moves.specs.Search.{all_squares}
use Rattle.shogi_moves.specs.internal.Search.{king_attacked}
use Rattle.shogi_moves.specs.Declaring.{in_camp, has_entered, cell_points, entered, camp_points}
use Rattle.shogi_moves.specs.internal.Declaring.{king_entered}
use Rattle.shogi_moves.specs.Declaring.{KingEntered, pieces_needed, points_needed, points}
use Rattle.shogi_moves.specs.internal.Declaring.{king_entered_at, can_declare}
use Rattle.shogi_moves.specs.internal.Declaring.{CanDeclareIs}
use Rattle.shogi_moves.proofs.AttackLemmas.{king_attacked-is, holds_king-is}
use Rattle.shogi_moves.proofs.TruthLemmas.{some_square-is, and-is, not-is, at_most-is}
use Rattle.shogi_moves.proofs.KingLemmas.{any-passing}

-- what is summed over a range is summed over those that pass, where the others count nothing
sum-passing : (f : ℕ → ℕ) (t : ℕ → Bool) (first count : ℕ) → ((q : ℕ) → t q ≡ false → f q ≡ 0)
    → sum_by f (range_with_len first count) ≡ sum_by f (passing t first count)
unfolding passing
sum-passing f t first zero none = refl
sum-passing f t first (suc count) none =
    let rest : sum_by f (range_with_len (first + 1) count) ≡ sum_by f (passing t (suc first) count) =
    ap (λ n. sum_by f (range_with_len n count)) (add-one first) ∙ sum-passing f t (suc first) count none in
    sum_by-cons f first (range_with_len (first + 1) count)
    ∙ elim (t first) as (λ b. t first ≡ b → f first + sum_by f (range_with_len (first + 1) count)
    ≡ sum_by f (cond b (first ∷ passing t (suc first) count) (passing t (suc first) count))) [
      | true ↦ λ _. ap (λ k. f first + k) rest ∙ sym (sum_by-cons f first (passing t (suc first) count))
      | false ↦ λ e. let nothing = none first e in omega (arith, nothing, rest)
    ] refl

-- one for a piece that has entered
abbrev pub one_at : ShogiBoard → Side → ℕ → ℕ
one_at board side n = cond (has_entered side n (map.get board n)) 1 0

abbrev pub points_at : ShogiBoard → Side → ℕ → ℕ
points_at board side n = cell_points side n (map.get board n)

others-none : (side : Side) (n : ℕ) (o : Option SPiece) → is_side side o ≡ false → has_entered side n o ≡ false
others-none side n None e = refl
others-none side n (Some piece) e = ap (λ b. (b && not (is_king piece.role)) && in_camp side n) e

no-points : (side : Side) (n : ℕ) (o : Option SPiece) → has_entered side n o ≡ false → cell_points side n o ≡ 0
no-points side n None e = refl
no-points side n (Some piece) e = rw e refl

module _ (board : ShogiBoard) (side : Side) (own : Numbers)
    (are : (q : ℕ) → set.contains own q ≡ is_side side (map.get board q)) where
  outside : (q : ℕ) → set.contains own q ≡ false → has_entered side q (map.get board q) ≡ false
  outside q e = others-none side q (map.get board q) (sym (are q) ∙ e)

  pub entered-walk : sum_by (one_at board side) (ascending 0 81 own) ≡ entered board side
  unfolding ascending entered all_squares
  entered-walk = sym (sum-passing (one_at board side) (set.contains own) 0 81
      (λ q e. ap (λ b. cond b 1 0) (outside q e)))

  pub points-walk : sum_by (points_at board side) (ascending 0 81 own) ≡ camp_points board side
  unfolding ascending camp_points all_squares
  points-walk = sym (sum-passing (points_at board side) (set.contains own) 0 81
      (λ q e. no-points side q (map.get board q) (outside q e)))

pub entered-few : (board : ShogiBoard) (side : Side) → entered board side ≤ 81
unfolding entered all_squares
entered-few board side = count_by-le-length (λ n. has_entered side n (map.get board n)) (range_with_len 0 81)

pub kings-entered : (board : ShogiBoard) (side : Side) (kings : Numbers) → AreKings board side kings
    → list_any (in_camp side) (ascending 0 81 kings) ≡ king_entered board side
unfolding ascending king_entered all_squares
kings-entered board side kings are = sym (any-passing _ (in_camp side) (set.contains kings) 0 81 are)

-- ---- the computed answer is the one by the rule

-- the king of the side stands there in the camp
abbrev KingAt : ShogiBoard → Side → ℕ → Type 0
KingAt board side n = (map.get board n ≡ Some (king side)) × (in_camp side n ≡ true)

king_entered-is : (board : ShogiBoard) (side : Side) → IsTrue (king_entered board side) ↔ KingEntered board side
unfolding king_entered
king_entered-is board side =
    let some = some_square-is (king_entered_at board side) (KingAt board side)
    (λ n. and-is (holds_king side (map.get board n)) (in_camp side n) (holds_king-is side (map.get board n))
    (λ e. e, λ e. e)) in (
      λ e. let w = some.0 e in
          record { square = w.square; on_board = w.on_board; stands = w.holds.0; entered = w.holds.1 },
      λ k. some.1 (record { square = k.square; on_board = k.on_board; holds = (k.stands, k.entered) }),
    )

pub can_declare-is : CanDeclareIs
unfolding can_declare
can_declare-is p =
    let king = king_entered-is p.board p.turn in
    let safe = not-is (king_attacked p.board p.turn) (king_attacked-is p.board p.turn) in
    let pieces = at_most-is pieces_needed (entered p.board p.turn) in
    let enough = at_most-is (points_needed p.turn) (points p) in
    let both = and-is _ _ (and-is _ _ king safe) (and-is _ _ pieces enough) in (
      λ e. let w = both.0 e in record { king = w.0.0; safe = w.0.1; pieces = w.1.0; enough = w.1.1 },
      λ d. both.1 ((d.king, d.safe), (d.pieces, d.enough)),
    )
