-- The rules determine the answer of a move check, and whether there is a legal move, a check or a declaration.
use Rattle.std.proofs.Common.{◌≡◌, Ok, Err, refl, sym}
use Rattle.squares.specs.declared.sides.Side.{Side}
use Rattle.squares.specs.declared.shogi.moves.SMove.{SMove}
use Rattle.squares.specs.ShogiBoard.{ShogiBoard}
use Rattle.squares.specs.ShogiSets.{ShogiPosition}
use Rattle.squares.specs.TheOnly.{TheOnly, IsTruthOf}
use Rattle.squares.specs.internal.TheOnly.{only_truth}
use Rattle.shogi_moves.specs.Check.{Answer, IsCheck}
use Rattle.shogi_moves.specs.internal.Computed.{check_of, has_move}
use Rattle.shogi_moves.specs.Declaring.{CanDeclare}
use Rattle.shogi_moves.specs.internal.Declaring.{can_declare}
use Rattle.shogi_moves.specs.Reach.{KingAttacked}
use Rattle.shogi_moves.specs.Rules.{HasMove}
use Rattle.shogi_moves.specs.internal.Search.{king_attacked}
use Rattle.shogi_moves.proofs.AttackLemmas.{king_attacked-is}
use Rattle.shogi_moves.proofs.CheckLemmas.{check_of-legal, check_of-refused}
use Rattle.shogi_moves.proofs.DeclareLemmas.{can_declare-is}
use Rattle.shogi_moves.proofs.MateLemmas.{has_move-is}

-- there is one answer
module _ (p : ShogiPosition) (m : SMove) where
  pub IsCheck-same : (a b : Answer) → IsCheck p m a → IsCheck p m b → a ≡ b
  IsCheck-same (Err rule) b w v = sym ((v.refused rule).1 ((w.refused rule).0 refl))
  IsCheck-same (Ok u) (Err rule) w v = (w.refused rule).1 ((v.refused rule).0 refl)
  IsCheck-same (Ok u) (Ok v) w x = refl

  -- the computed answer is the one by the rules
  pub check_of-is : IsCheck p m (check_of p m)
  check_of-is = record { legal = check_of-legal p m; refused = check_of-refused p m }

  -- a move check has one answer
  abbrev pub check-answer : TheOnly (IsCheck p m)
  check-answer =
      record {
        value = check_of p m;
        is = check_of-is;
        only = λ other is. IsCheck-same other (check_of p m) is check_of-is;
      }

-- whether the side to move has a legal move has one answer
abbrev pub move-answer : (p : ShogiPosition) → TheOnly (IsTruthOf (HasMove p))
move-answer p = only_truth (has_move p) (has_move-is p)

-- whether the side's king is attacked has one answer
abbrev pub attack-answer : (board : ShogiBoard) (side : Side) → TheOnly (IsTruthOf (KingAttacked board side))
attack-answer board side = only_truth (king_attacked board side) (king_attacked-is board side)

-- whether the side to move may declare a win has one answer
abbrev pub declare-answer : (p : ShogiPosition) → TheOnly (IsTruthOf (CanDeclare p))
declare-answer p = only_truth (can_declare p) (can_declare-is p)
