use Rattle.std.proofs.Common.{◌≡◌, ◌++◌, drop, map}
use Rattle.std.specs.Prelude.{string_bytes}
use Rattle.club_lists.specs.Board.{moves_from}
use Rattle.club_lists.proofs.board.push_moves.Given as goal

abbrev pub invariant-loop-made : goal.invariant-loop-made
invariant-loop-made l = record {
  count : l.plies ≡ l.made-index;
  lines : string_bytes l.text ++ moves_from l.kind l.plies l.filled (map (λ t. string_bytes t)
      (drop l.made-index l.moves))
      ≡ string_bytes l.fn.text ++ moves_from l.kind 0 0 (map (λ t. string_bytes t) l.moves);
}
