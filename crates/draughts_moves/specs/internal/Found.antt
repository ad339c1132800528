-- The longest captures, collected one after another. No promise of the program rests on these definitions.
use Rattle.std.specs.Prelude.{ℕ, ◌-◌, ◌&&◌, ◌==◌, nat_lt, if◌then◌else◌, List, [], ◌∷◌, map}
use Rattle.std.specs.FinSet as set
use Rattle.squares.specs.declared.draughts.moves.DMove.{DMove}
use Rattle.draughts_moves.specs.Capture.{Cells}
use Rattle.draughts_moves.specs.Search.{routes_of}
use Rattle.squares.specs.DraughtsBoard.{Position}
use Rattle.draughts_moves.specs.Listing.{move_to, captures_at}
use Rattle.draughts_moves.specs.declared.mover.Mover.{Mover}

-- The captures of `size` jumps that are still longest once captures of `most` jumps are known.
abbrev pub kept : ℕ → ℕ → List DMove → List DMove
kept size most moves = if size == most then moves else []

-- The capture alone, if it takes n pieces and n is not 0.
abbrev pub if_takes : ℕ → DMove → List DMove
if_takes n m = if nat_lt 0 n && n == set.len m.taken then m ∷ [] else []

-- The captures by which a piece in the middle of a capture takes n pieces in all, n not 0.
abbrev pub ends_of : Cells → Mover → ℕ → List DMove
ends_of b m n = if nat_lt 0 n then map (move_to m.origin)
    (routes_of b m.piece (n - set.len m.taken) m.taken m.at) else []

-- The captures by which the piece on x takes n pieces, n not 0.
abbrev pub captured : Position → ℕ → ℕ → List DMove
captured p n x = if nat_lt 0 n then captures_at p n x else []
