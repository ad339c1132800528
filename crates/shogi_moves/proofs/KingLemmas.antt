-- Kings and pawns looked for among their squares alone.
use Rattle.std.proofs.Common.{◌≡◌, ◌==◌, ℕ, zero, suc, ◌+◌, Bool, true, false, cond, ◌&&◌, ◌||◌, Option, Some, None}
use Rattle.std.proofs.Common.{◌∷◌, refl, sym, ap, ◌∙◌, add-one}
use Rattle.std.specs.List.{list_any, range_with_len}
use Rattle.std.specs.FinMap as map
use Rattle.std.specs.FinSet as set
use Rattle.std.proofs.Math.Bool.{and_comm}
use Rattle.masks.specs.Words.{Numbers, passing}
use Rattle.masks.specs.internal.Words.{ascending}
use Rattle.squares.specs.declared.sides.Side.{Side}
use Rattle.squares.specs.declared.shogi.piece.SPiece.{SPiece}
use Rattle.squares.specs.declared.shogi.piece.Role.{Role}
use Rattle.squares.specs.declared.shogi.piece.Role.TheVariants as role
use Rattle.squares.specs.Sides.{same_side}
use Rattle.squares.specs.ShogiBoard.{ShogiBoard}
use Rattle.squares.specs.ShogiGeometry.{file_of}
use Rattle.squares.specs.ShogiSamePosition.{same_role}
use Rattle.squares.specs.internal.ShogiWords.{holds}
use Rattle.squares.specs.ShogiSets.{is_king}
use Rattle.squares.specs.internal.ShogiSets.{holds_king}
use Rattle.shogi_moves.specs.Reach.{king}
use Rattle.shogi_moves.specs.Rules.{pawn}
use Rattle.shogi_moves.specs.internal.Kings.{AreKings}
use Rattle.shogi_moves.specs.Search.{all_squares}
use Rattle.shogi_moves.specs.internal.Search.{attacked, king_attacked_at, king_attacked}
use Rattle.shogi_moves.specs.internal.Computed.{is_pawn, holds_pawn, pawn_on_file_at, pawn_on_file}

pub any-passing : (k a t : ℕ → Bool) (first count : ℕ) → ((q : ℕ) → t q ≡ k q)
    → list_any (λ q. k q && a q) (range_with_len first count) ≡ list_any a (passing t first count)
unfolding passing
any-passing k a t first zero is = refl
any-passing k a t first (suc count) is =
    let rest : list_any (λ q. k q && a q) (range_with_len (first + 1) count)
    ≡ list_any a (passing t (suc first) count) =
    ap (λ n. list_any (λ q. k q && a q) (range_with_len n count)) (add-one first)
    ∙ any-passing k a t (suc first) count is in
    (λ i. (sym (is first) i && a first) || rest i)
    ∙ elim (t first) as (λ b. ((b && a first) || list_any a (passing t (suc first) count))
    ≡ list_any a (cond b (first ∷ passing t (suc first) count) (passing t (suc first) count)))
    [ true ↦ refl | false ↦ refl ]

module _ (board : ShogiBoard) (side : Side) where
  pub kings-attacked : (kings : Numbers) → AreKings board side kings
      → list_any (attacked board side) (ascending 0 81 kings) ≡ king_attacked board side
  unfolding ascending king_attacked king_attacked_at all_squares
  kings-attacked kings are =
      sym (any-passing (λ q. holds_king side (map.get board q)) (attacked board side) (set.contains kings) 0 81 are)

  pub pawns-on_file : (square : ℕ) (pawns : Numbers)
      → ((q : ℕ) → set.contains pawns q ≡ holds_pawn side (map.get board q))
      → list_any (λ q. file_of q == file_of square) (ascending 0 81 pawns) ≡ pawn_on_file board side square
  unfolding ascending pawn_on_file pawn_on_file_at all_squares
  pawns-on_file square pawns are =
      sym
      (any-passing (λ q. holds_pawn side (map.get board q)) (λ q. file_of q == file_of square) (set.contains pawns) 0 81
      are)

-- a side's king is the piece that counts as one, and its pawn is
same-king : (r : Role) → same_role r role.King ≡ is_king r
same-king role.King = refl
same-king _ = refl

same-pawn : (r : Role) → same_role r role.Pawn ≡ is_pawn r
same-pawn role.King = refl
same-pawn _ = refl

pub king-cell : (side : Side) (o : Option SPiece) → holds (king side) o ≡ holds_king side o
king-cell side None = refl
king-cell side (Some piece) = and_comm (same_side piece.side side) (same_role piece.role role.King)
    ∙ ap (λ k. k && same_side piece.side side) (same-king piece.role)

pub pawn-cell : (side : Side) (o : Option SPiece) → holds (pawn side) o ≡ holds_pawn side o
pawn-cell side None = refl
pawn-cell side (Some piece) = and_comm (same_side piece.side side) (same_role piece.role role.Pawn)
    ∙ ap (λ k. k && same_side piece.side side) (same-pawn piece.role)

-- what a look at the least square of a set leaves
pub any-popped : (a : ℕ → Bool) (before after : Numbers) (n : ℕ) (b whole : Bool)
    → ascending 0 81 before ≡ n ∷ ascending 0 81 after → list_any a (ascending 0 81 before) ≡ whole → a n ≡ b
    → (b || list_any a (ascending 0 81 after)) ≡ whole
any-popped a before after n b whole pop so_far e =
    sym (ap (list_any a) pop ∙ ap (λ c. c || list_any a (ascending 0 81 after)) e) ∙ so_far
