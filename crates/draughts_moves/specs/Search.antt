-- The computed moves of a position.
use Rattle.std.specs.Prelude.{ℕ, ◌+◌, Bool, not, cond, ◌&&◌, Option, Some, None, is_none}
use Rattle.std.specs.Prelude.{List, []}
use Rattle.std.specs.Prelude.{◌∷◌, ◌++◌, max, count_by, fold, map, take, option_and_then}
use Rattle.std.specs.Prelude.{if◌then◌else◌}
use Rattle.std.specs.Option.{option_map_or}
use Rattle.std.specs.FinMap as finite_map
use Rattle.squares.specs.DraughtsBoard.{Position}
use Rattle.std.proofs.Common.{zero, suc}
use Rattle.std.specs.List.{flat_map, range_with_len}
use Rattle.std.specs.FinSet as set
use Rattle.squares.specs.declared.draughts.direction.Direction.{Direction}
use Rattle.squares.specs.declared.draughts.direction.Direction.TheVariants.{UpLeft, UpRight, DownLeft, DownRight}
use Rattle.squares.specs.declared.draughts.piece.DPiece.{DPiece}
use Rattle.squares.specs.DraughtsSets.{Squares}
use Rattle.squares.specs.DraughtsGeometry.{ray}
use Rattle.draughts_moves.specs.Legal.{is_forward}
use Rattle.draughts_moves.specs.Capture.{Cells, is_enemy, without}
use Rattle.squares.specs.Sides.{same_side}

-- The squares before the first piece.
abbrev pub clear_front : Cells → List ℕ → List ℕ
clear_front b [] = []
clear_front b (n ∷ ns) = cond (is_none (b n)) (n ∷ clear_front b ns) []

-- Whether an enemy that is not captured yet is on the square.
abbrev pub is_prey : Cells → DPiece → Squares → ℕ → Bool
is_prey b p taken n = is_enemy p (b n) && not (set.contains taken n)

-- The jumps of a king along a line: the square jumped over, and the landing.
abbrev pub king_jumps : Cells → DPiece → Squares → List ℕ → List (ℕ × ℕ)
king_jumps b p taken [] = []
king_jumps b p taken (n ∷ ns) = cond (is_none (b n)) (king_jumps b p taken ns)
    (cond (is_prey b p taken n) (map (λ l. (n, l)) (clear_front b ns)) [])

-- The jump of a man along a line, if it has one: the square jumped over, and the landing.
abbrev pub man_jumps : Cells → DPiece → Squares → List ℕ → List (ℕ × ℕ)
man_jumps b p taken [] = []
man_jumps b p taken (n ∷ []) = []
man_jumps b p taken (n ∷ l ∷ ns) = cond (is_prey b p taken n && is_none (b l)) ((n, l) ∷ []) []

-- The jumps of a piece along a line: the square jumped over, and the landing.
abbrev pub line_jumps : Cells → DPiece → Squares → List ℕ → List (ℕ × ℕ)
line_jumps b p taken ns = cond p.king (king_jumps b p taken ns) (man_jumps b p taken ns)

-- The jumps of a piece from a square in the four directions: the square jumped over, and the landing.
unfoldable pub jumps : Cells → DPiece → Squares → ℕ → List (ℕ × ℕ)
jumps b p taken s =
    line_jumps b p taken (ray UpLeft s)
    ++
    (line_jumps b p taken (ray UpRight s) ++
    (line_jumps b p taken (ray DownLeft s) ++ line_jumps b p taken (ray DownRight s)))

-- The range of a quiet move: the whole diagonal for a king; for a man one square, forward only.
abbrev pub reach : DPiece → Direction → ℕ
reach q d = if q.king then 9 else if is_forward q.side d then 1 else 0

-- The target squares of a piece's quiet moves in a direction.
unfoldable pub steps_along : Cells → DPiece → Direction → ℕ → List ℕ
steps_along b q d x = clear_front b (take (reach q d) (ray d x))

-- The target squares of a piece's quiet moves.
unfoldable pub steps : Cells → DPiece → ℕ → List ℕ
steps b q x = steps_along b q UpLeft x ++
    (steps_along b q UpRight x ++ (steps_along b q DownLeft x ++ steps_along b q DownRight x))

-- The captured pieces and the end of each route of n jumps.
unfoldable pub routes_of : Cells → DPiece → ℕ → Squares → ℕ → List (Squares × ℕ)
routes_of b p zero taken s = (taken, s) ∷ []
routes_of b p (suc n) taken s = flat_map (λ j. routes_of b p n (set.insert taken j.0) j.1) (jumps b p taken s)

-- The greatest number of consecutive jumps, at most k.
unfoldable pub longest : Cells → DPiece → ℕ → Squares → ℕ → ℕ
longest b p zero taken s = 0
longest b p (suc k) taken s = fold (λ m j. max m (longest b p k (set.insert taken j.0) j.1 + 1)) 0 (jumps b p taken s)

-- The number of enemies that are not captured.
unfoldable pub prey_left : Cells → DPiece → Squares → ℕ
prey_left b p taken = count_by (is_prey b p taken) (range_with_len 1 50)

-- The greatest number of consecutive jumps.
unfoldable pub greatest : Cells → DPiece → Squares → ℕ → ℕ
greatest b p taken s = longest b p (prey_left b p taken) taken s

-- The piece on x, if it belongs to the side to move.
abbrev pub own_at : Position → ℕ → Option DPiece
own_at p x = option_and_then (λ q. if same_side q.side p.turn then Some q else None) (finite_map.get p.board x)

-- The greatest number of consecutive jumps of the piece on x.
unfoldable pub greatest_at : Position → ℕ → ℕ
greatest_at p x = option_map_or (λ q. greatest (without p.board x) q set.empty x) (own_at p x) 0

-- The greatest number of consecutive jumps of any piece of the side to move.
unfoldable pub most : Position → ℕ
most p = fold (λ m x. max m (greatest_at p x)) 0 (range_with_len 1 50)
