use Rattle.std.proofs.Common.{◌≡◌, ℕ, List, ◌++◌}
use Rattle.std.specs.Io.KnownBytes.{Appends}
use Rattle.record_writer.proofs.piece.write_piece.Given as goal

-- what is gone from `rest` was appended
abbrev pub invariant-writes : goal.invariant-writes
invariant-writes g l = (done : List ℕ) × (done ++ l.rest ≡ l.bytes)
    × Appends (g.W.Write.contents l.fn.writer) (g.W.Write.contents l.writer) done
