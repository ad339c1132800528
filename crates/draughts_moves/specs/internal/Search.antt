-- The computed moves of a position. No promise of the program rests on these definitions.
use Rattle.std.specs.Prelude.{◌≡◌, ℕ, Bool, false, length, ◌&&◌, is_none}
use Rattle.std.specs.Prelude.{is_some}
use Rattle.std.specs.Prelude.{nat_lt, ◌||◌, ◌==◌}
use Rattle.std.specs.Option.{option_map_or}
use Rattle.std.specs.FinMap as finite_map
use Rattle.squares.specs.DraughtsBoard.{Position}
use Rattle.squares.specs.internal.DraughtsBoard.{is_of}
use Rattle.std.specs.List.{find, range_with_len, list_any}
use Rattle.std.specs.FinSet as set
use Rattle.squares.specs.declared.draughts.direction.Direction.{Direction}
use Rattle.squares.specs.declared.draughts.direction.Direction.TheVariants.{UpLeft, UpRight, DownLeft, DownRight}
use Rattle.squares.specs.declared.draughts.piece.DPiece.{DPiece}
use Rattle.squares.specs.declared.sides.Side.{Side}
use Rattle.squares.specs.declared.sides.Side.TheVariants.{First, Second}
use Rattle.squares.specs.DraughtsSets.{Squares}
use Rattle.squares.specs.DraughtsGeometry.{ray, step}
use Rattle.draughts_moves.specs.Capture.{Cells, without}
use Rattle.squares.specs.Sides.{other}
use Rattle.draughts_moves.specs.Search.{is_prey, jumps, steps, own_at}

-- Whether the piece can capture the enemy on n by a jump in a direction: the next square exists and is empty.
abbrev pub takes : Cells → DPiece → Squares → Direction → ℕ → Bool
takes b p taken d n = is_prey b p taken n && option_map_or (λ l. is_none (b l)) (step d n) false

-- The set holds exactly the occupied squares.
abbrev pub AreStanding : Cells → Squares → Type 0
AreStanding b pieces = (n : ℕ) → set.contains pieces n ≡ is_some (b n)

-- One set holds the pieces that can be captured, the other all pieces.
abbrev pub Meets : Cells → DPiece → Squares → Squares → Squares → Type 0
Meets b p taken prey pieces = ((n : ℕ) → set.contains prey n ≡ is_prey b p taken n) × AreStanding b pieces

-- The set holds exactly the enemy's pieces.
abbrev pub AreEnemies : Position → Squares → Type 0
AreEnemies p enemies = (n : ℕ) → set.contains enemies n ≡ is_of (other p.turn) (finite_map.get p.board n)

-- Whether the next square in a direction is in the set.
abbrev pub next_in : Squares → Direction → ℕ → Bool
next_in s d n = option_map_or (set.contains s) (step d n) false

-- Whether one of the two squares in front of a man is in the set.
abbrev pub is_before : Side → Squares → ℕ → Bool
is_before First s n = next_in s UpLeft n || next_in s UpRight n
is_before Second s n = next_in s DownLeft n || next_in s DownRight n

-- The set holds exactly the enemy's pieces whose next square in a direction is empty.
abbrev pub AreExposed : Position → Direction → Squares → Type 0
AreExposed p d s =
    (n : ℕ)
    → set.contains s n ≡ (is_of (other p.turn) (finite_map.get p.board n) && option_map_or
    (λ l. is_none (finite_map.get p.board l)) (step d n) false)

-- Whether the first square of `pieces` in a direction is in `these`.
abbrev pub faces : Squares → Squares → Direction → ℕ → Bool
faces pieces these d n = option_map_or (set.contains these) (find (set.contains pieces) (ray d n)) false

-- Whether the next square in a direction is in one set, and the square behind it in another.
abbrev pub next_before : Squares → Squares → Direction → ℕ → Bool
next_before s behind d n = option_map_or (λ m. set.contains s m && next_in behind d m) (step d n) false

-- The same in any of the four directions.
abbrev pub is_beside : Squares → Squares → ℕ → Bool
is_beside s behind n =
    ((next_before s behind UpLeft n || next_before s behind UpRight n) || next_before s behind DownLeft n) ||
    next_before s behind DownRight n

-- Whether the piece on x belongs to the side to move and has a quiet move to y.
unfoldable pub is_step : Position → ℕ → ℕ → Bool
is_step p x y = option_map_or (λ q. list_any (λ z. z == y) (steps (finite_map.get p.board) q x)) (own_at p x) false

-- Whether the piece on x belongs to the side to move and has a quiet move or a jump.
unfoldable pub can_move : Position → ℕ → Bool
can_move p x =
    option_map_or
    (λ q. nat_lt 0 (length (steps (finite_map.get p.board) q x)) || nat_lt 0
    (length (jumps (without p.board x) q set.empty x))) (own_at p x) false

-- Whether the side to move has a legal move.
unfoldable pub has_move : Position → Bool
has_move p = list_any (can_move p) (range_with_len 1 50)
