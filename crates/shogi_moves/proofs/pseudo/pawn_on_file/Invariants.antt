use Rattle.std.proofs.Common.{◌≡◌, ◌==◌, length}
use Rattle.std.specs.List.{list_any}
use Rattle.masks.specs.internal.Words.{ascending}
use Rattle.squares.specs.ShogiGeometry.{file_of}
use Rattle.shogi_moves.specs.internal.Computed.{pawn_on_file}
use Rattle.shogi_moves.proofs.pseudo.pawn_on_file.Given as goal

abbrev pub invariant-loop-there : goal.invariant-loop-there
invariant-loop-there l = list_any (λ q. file_of q == file_of l.square) (ascending 0 81 l.rest)
    ≡ pawn_on_file l.fn.board l.fn.side l.square

abbrev pub decreases-loop-there : goal.decreases-loop-there
decreases-loop-there l = length (ascending 0 81 l.rest)
