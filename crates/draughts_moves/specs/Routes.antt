-- The computed capture routes, in lexicographic order of their landings.
use Rattle.std.specs.Prelude.{ℕ, ◌&&◌, ◌==◌, if◌then◌else◌, List, [], ◌∷◌, map}
use Rattle.std.proofs.Common.{zero, suc}
use Rattle.std.specs.declared.cmp.Ordering.{Ordering}
use Rattle.std.specs.Cmp.Lexicographic.{slice_cmp}
use Rattle.std.specs.List.{flat_map}
use Rattle.std.specs.Ordering.{nat_cmp}
use Rattle.std.specs.FinSet as set
use Rattle.squares.specs.declared.draughts.piece.DPiece.{DPiece}
use Rattle.squares.specs.DraughtsSets.{Squares, same_squares}
use Rattle.draughts_moves.specs.Capture.{Cells}
use Rattle.draughts_moves.specs.Search.{jumps}

-- The lexicographic order of routes.
abbrev pub route_cmp : List ℕ → List ℕ → Ordering
route_cmp a b = slice_cmp nat_cmp a b

-- The landings of each route of n jumps that captures `all` and ends on `to`.
unfoldable pub landings_of : Cells → DPiece → Squares → ℕ → ℕ → Squares → ℕ → List (List ℕ)
landings_of b q all to zero taken s = if s == to && same_squares taken all then [] ∷ [] else []
landings_of b q all to (suc n) taken s =
    flat_map (λ j. map (λ ls. j.1 ∷ ls) (landings_of b q all to n (set.insert taken j.0) j.1)) (jumps b q taken s)
