use Rattle.std.proofs.Common.{◌≤◌, ◌<◌, ℕ, get_or}
use Rattle.squares.specs.internal.ShogiSets.{in_play, set_size}
use Rattle.squares.specs.declared.shogi.piece.HandKind.TheVariants.{Rook}
use Rattle.squares.proofs.Proved.{kinds}
use Rattle.sfen.proofs.reading.exceeds_sets.Given as goal

abbrev pub invariant-loop-kind : goal.invariant-loop-kind
invariant-loop-kind l = (k : ℕ) → k < l.kind-index
    → in_play (get_or kinds k Rook) l.board l.hands ≤ set_size (get_or kinds k Rook)
