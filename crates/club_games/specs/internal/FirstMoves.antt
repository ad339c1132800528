-- In the initial position of both games First has a legal move. No promise of the program rests on these definitions.
use Rattle.std.proofs.Common.{◌≡◌, ℕ, zero, suc, Bool, true, false, cond, ◌||◌, ◌&&◌, List, [], ◌∷◌, length, Option}
use Rattle.std.proofs.Common.{Some, None, Ok, refl, ap, ◌∙◌, arith, get_or}
use Rattle.std.specs.Prelude.{if◌then◌else◌, nat_lt, is_none, ◌==◌, map as list_map}
use Rattle.std.specs.List.{list_any, range_with_len}
use Rattle.std.specs.Option.{option_map_or, option_and_then}
use Rattle.std.specs.Ordering.{nat_cmp, eq_by_cmp}
use Rattle.std.specs.Cmp.{nat_cmp_total}
use Rattle.std.specs.FinMap as map
use Rattle.std.specs.FinSet as set
use Rattle.std.proofs.lemmas.List.Folds.{list_any_at}
use Rattle.squares.specs.declared.sides.Side.{Side}
use Rattle.squares.specs.declared.sides.Side.TheVariants.{First}
use Rattle.squares.specs.Sides.{other, same_side}
use Rattle.squares.specs.declared.draughts.piece.DPiece.{DPiece}
use Rattle.squares.specs.internal.DraughtsCells.{get-board_of, get-board_of-zero}
use Rattle.squares.specs.DraughtsGeometry.{line as along, neighbor, ray, step as next}
use Rattle.squares.specs.DraughtsOpening as draughts
use Rattle.draughts_moves.specs.internal.Search as in_draughts
use Rattle.draughts_moves.specs.Search.{steps, steps_along, jumps}
use Rattle.draughts_moves.specs.internal.Search.{can_move}
use Rattle.draughts_moves.specs.Capture.{without}
use Rattle.squares.specs.ShogiBoard.{ShogiBoard}
use Rattle.squares.specs.ShogiOpening.{opening, opening_cell}
use Rattle.squares.specs.internal.ShogiSets.{holds_king}
use Rattle.squares.specs.declared.shogi.piece.Role.TheVariants as role
use Rattle.squares.specs.declared.shogi.piece.SPiece.{SPiece}
use Rattle.squares.specs.declared.shogi.moves.SMove.{SMove}
use Rattle.squares.specs.declared.shogi.moves.SMove.TheVariants.{Step}
use Rattle.squares.proofs.Proved.{get-shogi_board_of}
use Rattle.shogi_moves.specs.internal.Computed.{check_of, drops_second_pawn, goes, leaves_king, mates_by_pawn}
use Rattle.shogi_moves.specs.internal.Computed.{stuck_after}
use Rattle.shogi_moves.specs.Reach.{line as walk, range, step}
use Rattle.shogi_moves.specs.Rules.{arrived}
use Rattle.shogi_moves.specs.Search.{all_squares}
use Rattle.shogi_moves.specs.internal.Search.{all_headings, attacked, comes_to, king_attacked, king_attacked_at}
use Rattle.shogi_moves.specs.internal.Search.{piece_reaches, side_reaches}

-- ---- draughts

-- the content of a square in the initial position
abbrev cell : ℕ → Option DPiece
cell zero = None
cell (suc k) = get_or (list_map draughts.opening_piece (range_with_len 1 50)) k None

stands : (n : ℕ) → map.get draughts.opening.board n ≡ cell n
unfolding draughts.opening
stands zero = get-board_of-zero (list_map draughts.opening_piece (range_with_len 1 50))
stands (suc k) = get-board_of (list_map draughts.opening_piece (range_with_len 1 50)) (suc k) k (omega arith)

cells-are : map.get draughts.opening.board ≡ cell
cells-are = λ i n. stands n i

man_moves : can_move draughts.opening 31 ≡ true
unfolding can_move steps steps_along ray along next neighbor draughts.opening
man_moves =
    λ i. option_map_or
    (λ q. nat_lt 0 (length (steps (cells-are i) q 31)) || nat_lt 0
    (length (jumps (without draughts.opening.board 31) q set.empty 31)))
    (option_and_then (λ q. if same_side q.side First then Some q else None) (cells-are i 31)) false

pub man-has_move : in_draughts.has_move draughts.opening ≡ true
unfolding in_draughts.has_move
man-has_move = list_any_at (can_move draughts.opening) (range_with_len 1 50) 30 0 (omega arith) man_moves

-- ---- shogi

-- attacks on a board that is given as a function of the square
abbrev Cells : Type 0
Cells = ℕ → Option SPiece

abbrev comes_by : Cells → ℕ → List ℕ → Bool
comes_by cells y [] = false
comes_by cells y (n ∷ ns) = n == y || (is_none (cells n) && comes_by cells y ns)

comes-is : (board : ShogiBoard) (y : ℕ) (ns : List ℕ) → comes_to board y ns ≡ comes_by (map.get board) y ns
comes-is board y [] = refl
comes-is board y (n ∷ ns) = ap (λ b. n == y || (is_none (map.get board n) && b)) (comes-is board y ns)

abbrev reaches_by : Cells → SPiece → ℕ → ℕ → Bool
reaches_by cells piece x y =
    list_any (λ heading. comes_by cells y (walk (range piece.role heading) piece.side heading x)) all_headings

reaches-is : (board : ShogiBoard) (piece : SPiece) (x y : ℕ)
    → piece_reaches board piece x y ≡ reaches_by (map.get board) piece x y
unfolding piece_reaches
reaches-is board piece x y =
    λ i. list_any (λ heading. comes-is board y (walk (range piece.role heading) piece.side heading x) i) all_headings

abbrev side_by : Cells → Side → ℕ → ℕ → Bool
side_by cells side y x =
    option_map_or (λ piece. same_side piece.side side && reaches_by cells piece x y) (cells x) false

side-is : (board : ShogiBoard) (side : Side) (y x : ℕ) → side_reaches board side y x ≡ side_by (map.get board) side y x
unfolding side_reaches
side-is board side y x =
    λ i. option_map_or (λ piece. same_side piece.side side && reaches-is board piece x y i) (map.get board x) false

abbrev attacked_by : Cells → Side → ℕ → Bool
attacked_by cells side square =
    holds_king side (cells square) && list_any (side_by cells (other side) square) all_squares

attacked-is : (board : ShogiBoard) (side : Side) (square : ℕ)
    → king_attacked_at board side square ≡ attacked_by (map.get board) side square
unfolding king_attacked_at attacked
attacked-is board side square =
    λ i. holds_king side (map.get board square)
    && list_any (λ x. side-is board (other side) square x i) all_squares

king-is : (board : ShogiBoard) (side : Side)
    → king_attacked board side ≡ list_any (attacked_by (map.get board) side) all_squares
unfolding king_attacked
king-is board side = λ i. list_any (λ square. attacked-is board side square i) all_squares

-- the content of a square in the initial position
abbrev opened : Cells
opened n = get_or (list_map opening_cell (range_with_len 0 81)) n None

opened-are : (n : ℕ) → map.get opening.board n ≡ opened n
unfolding opening
opened-are n = get-shogi_board_of (list_map opening_cell (range_with_len 0 81)) n

abbrev pawn : SPiece
pawn = record { side = First; role = role.Pawn }

-- the content of a square after the pawn's step
abbrev pushed : Cells
pushed n = cond (eq_by_cmp nat_cmp n 59) (Some pawn) (cond (eq_by_cmp nat_cmp n 60) None (opened n))

pushed-are : (n : ℕ) → map.get (map.insert (map.remove opening.board 60) 59 pawn) n ≡ pushed n
pushed-are n =
    map.get-insert nat_cmp_total (map.remove opening.board 60) 59 pawn n
    ∙ ap (cond (eq_by_cmp nat_cmp n 59) (Some pawn))
    (map.get-remove nat_cmp_total opening.board 60 n ∙ ap (cond (eq_by_cmp nat_cmp n 60) None) (opened-are n))

safe : list_any (attacked_by pushed First) all_squares ≡ false
unfolding all_squares walk step
safe = refl

pawn_stands : map.get opening.board 60 ≡ Some pawn
pawn_stands = opened-are 60

free_before : map.get opening.board 59 ≡ None
free_before = opened-are 59

abbrev pub pawn_step : SMove
pawn_step = Step 60 59 false

goes_there : goes opening 60 59 false ≡ true
unfolding goes piece_reaches walk step opening
goes_there = rw (pawn_stands, free_before) refl

keeps_safe : leaves_king opening pawn_step ≡ false
unfolding leaves_king opening
keeps_safe =
    ap
    (λ o. king_attacked
    (option_map_or (λ piece. map.insert (map.remove opening.board 60) 59 (arrived piece false)) o opening.board) First)
    pawn_stands
    ∙ king-is (map.insert (map.remove opening.board 60) 59 pawn) First
    ∙ (λ i. list_any (attacked_by (λ n. pushed-are n i) First) all_squares)
    ∙ safe

not_stuck : stuck_after opening 60 59 ≡ false
unfolding stuck_after
not_stuck = rw pawn_stands refl

pub pawn-passes : check_of opening pawn_step ≡ Ok tt
unfolding check_of drops_second_pawn mates_by_pawn
pawn-passes = rw (goes_there, not_stuck, keeps_safe) refl
