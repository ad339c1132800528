-- The rules determine the answer of a move check, and whether there is a legal move.
use Rattle.squares.specs.declared.draughts.moves.DMove.{DMove}
use Rattle.squares.specs.DraughtsBoard.{Position}
use Rattle.squares.specs.TheOnly.{TheOnly, IsTruthOf}
use Rattle.squares.specs.internal.TheOnly.{only_truth}
use Rattle.draughts_moves.specs.Check.{IsCheck}
use Rattle.draughts_moves.specs.internal.Check.{check_of}
use Rattle.draughts_moves.specs.Legal.{HasMove}
use Rattle.draughts_moves.specs.internal.Search.{has_move}
use Rattle.draughts_moves.proofs.CheckLemmas.{IsCheck-same, check_of-is}
use Rattle.draughts_moves.proofs.MoveLemmas.{has_move-sound, has_move-complete}

-- a move check has one answer
abbrev pub check-answer : (p : Position) (m : DMove) → TheOnly (IsCheck p m)
check-answer p m =
    record {
      value = check_of p m;
      is = check_of-is p m;
      only = λ other is. IsCheck-same p m other (check_of p m) is (check_of-is p m);
    }

-- whether the side to move has a legal move has one answer
abbrev pub move-answer : (p : Position) → TheOnly (IsTruthOf (HasMove p))
move-answer p = only_truth (has_move p) (has_move-sound p, has_move-complete p)
