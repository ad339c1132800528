-- The rules as computable tests. No promise of the program rests on these definitions.
use Rattle.std.specs.Prelude.{ℕ, Bool, true, false, not, ◌&&◌, ◌||◌, ◌==◌, nat_lt, is_none, Option, Some, None, Ok}
use Rattle.std.specs.Prelude.{Err, List, [], ◌∷◌, if◌then◌else◌}
use Rattle.std.specs.Option.{option_map_or}
use Rattle.std.specs.List.{list_any}
use Rattle.std.specs.FinMap as map
use Rattle.squares.specs.declared.sides.Side.{Side}
use Rattle.squares.specs.declared.shogi.piece.Role.{Role}
use Rattle.squares.specs.declared.shogi.piece.Role.TheVariants as role
use Rattle.squares.specs.declared.shogi.piece.HandKind.{HandKind}
use Rattle.squares.specs.declared.shogi.piece.HandKind.TheVariants as in_hand
use Rattle.squares.specs.declared.shogi.piece.SPiece.{SPiece}
use Rattle.squares.specs.declared.shogi.moves.SMove.{SMove}
use Rattle.squares.specs.declared.shogi.moves.SMove.TheVariants.{Step, Drop}
use Rattle.squares.specs.Sides.{same_side}
use Rattle.squares.specs.ShogiBoard.{ShogiBoard}
use Rattle.squares.specs.ShogiSets.{ShogiPosition}
use Rattle.squares.specs.ShogiGeometry.{file_of}
use Rattle.shogi_moves.specs.declared.checking.Illegal.{Illegal}
use Rattle.shogi_moves.specs.declared.checking.Illegal.TheVariants as illegal
use Rattle.shogi_moves.specs.Search.{all_squares}
use Rattle.shogi_moves.specs.internal.Search.{piece_reaches, king_attacked}
use Rattle.shogi_moves.specs.Check.{Answer}
use Rattle.shogi_moves.specs.Rules.{may_promote, is_stuck, may_land, held, dropped_role, target, board_after, play}
use Rattle.shogi_moves.specs.Rules.{rules_in_order}
use Rattle.shogi_moves.specs.Computed.{all_kinds}

-- Whether the piece on `from` can step to `to`.
unfoldable pub goes : ShogiPosition → ℕ → ℕ → Bool → Bool
goes p from to promote =
    option_map_or
    (λ piece. same_side piece.side p.turn && may_land p.turn (map.get p.board to) &&
    (not promote || may_promote piece from to) && piece_reaches p.board piece from to) (map.get p.board from) false

-- Whether the square is on the board and empty.
unfoldable pub is_free : ShogiBoard → ℕ → Bool
is_free board square = nat_lt square 81 && is_none (map.get board square)

-- Whether the step is possible for the piece on its start, or the drop ends on an empty square.
abbrev pub is_movement : ShogiPosition → SMove → Bool
is_movement p (Step from to promote) = goes p from to promote
is_movement p (Drop kind to) = is_free p.board to

-- Whether the move drops a piece that is not in the hand of the side to move.
abbrev pub drops_unheld : ShogiPosition → SMove → Bool
drops_unheld p (Step from to promote) = false
drops_unheld p (Drop kind to) = held p.hands p.turn kind == 0

-- Whether the piece on `from`, without promotion, could never move again from `to`.
unfoldable pub stuck_after : ShogiPosition → ℕ → ℕ → Bool
stuck_after p from to = option_map_or (λ piece. is_stuck piece.side piece.role to) (map.get p.board from) false

-- Whether the move is a step without promotion after which the piece could never move again.
abbrev pub fails_to_promote : ShogiPosition → SMove → Bool
fails_to_promote p (Step from to promote) = not promote && stuck_after p from to
fails_to_promote p (Drop kind to) = false

-- Whether the move drops a piece on a rank from which it could never move.
abbrev pub drops_dead : ShogiPosition → SMove → Bool
drops_dead p (Step from to promote) = false
drops_dead p (Drop kind to) = is_stuck p.turn (dropped_role kind) to

-- Whether the role is that of an unpromoted pawn.
abbrev pub is_pawn : Role → Bool
is_pawn role.Pawn = true
is_pawn _ = false

-- Whether the cell holds an unpromoted pawn of the side.
abbrev pub holds_pawn : Side → Option SPiece → Bool
holds_pawn side None = false
holds_pawn side (Some piece) = is_pawn piece.role && same_side piece.side side

-- Whether the side has an unpromoted pawn on `there`, and this square is on the file of `square`.
unfoldable pub pawn_on_file_at : ShogiBoard → Side → ℕ → ℕ → Bool
pawn_on_file_at board side square there = holds_pawn side (map.get board there) && file_of there == file_of square

-- Whether the side has an unpromoted pawn on the file of the square.
unfoldable pub pawn_on_file : ShogiBoard → Side → ℕ → Bool
pawn_on_file board side square = list_any (pawn_on_file_at board side square) all_squares

-- Whether the move drops a pawn.
abbrev pub drops_pawn : SMove → Bool
drops_pawn (Step from to promote) = false
drops_pawn (Drop in_hand.Pawn to) = true
drops_pawn (Drop kind to) = false

-- Whether the move drops a pawn on a file with another unpromoted pawn of its side (nifu).
unfoldable pub drops_second_pawn : ShogiPosition → SMove → Bool
drops_second_pawn p m = drops_pawn m && pawn_on_file p.board p.turn (target m)

-- Whether the move is legal, apart from the rules on the safety of its own king and on mate by a dropped pawn.
unfoldable pub is_pseudo : ShogiPosition → SMove → Bool
is_pseudo p m = is_movement p m && not (drops_unheld p m) && not (fails_to_promote p m) && not (drops_dead p m) && not
    (drops_second_pawn p m)

-- Whether the king of the side that moves is in check after the move.
unfoldable pub leaves_king : ShogiPosition → SMove → Bool
leaves_king p m = king_attacked (board_after p m) p.turn

-- Whether the move leaves its own king safe.
unfoldable pub escapes : ShogiPosition → SMove → Bool
escapes p m = is_pseudo p m && not (leaves_king p m)

-- whether the step between these two squares passes the test, with or without promotion
abbrev pub some_step_between : (SMove → Bool) → ℕ → ℕ → Bool
some_step_between test from to = test (Step from to false) || test (Step from to true)

-- Whether some step from the square passes the test.
abbrev pub some_step_from : (SMove → Bool) → ℕ → Bool
some_step_from test from = list_any (some_step_between test from) all_squares

-- Whether some step passes the test.
abbrev pub some_step : (SMove → Bool) → Bool
some_step test = list_any (some_step_from test) all_squares

-- Whether some drop of the kind passes the test.
abbrev pub some_drop_of : (SMove → Bool) → HandKind → Bool
some_drop_of test kind = list_any (λ to. test (Drop kind to)) all_squares

-- Whether some drop passes the test.
abbrev pub some_drop : (SMove → Bool) → Bool
some_drop test = list_any (some_drop_of test) all_kinds

-- Whether some step or drop passes the test.
unfoldable pub some_move : (SMove → Bool) → Bool
some_move test = some_step test || some_drop test

-- Whether the side to move is checkmated: it is in check, and no move leaves its king safe.
unfoldable pub is_mate : ShogiPosition → Bool
is_mate p = king_attacked p.board p.turn && not (some_move (escapes p))

-- Whether the move gives mate by dropping a pawn (uchifuzume).
unfoldable pub mates_by_pawn : ShogiPosition → SMove → Bool
mates_by_pawn p m = drops_pawn m && is_mate (play p m)

-- Whether the move is legal.
unfoldable pub is_legal : ShogiPosition → SMove → Bool
is_legal p m = escapes p m && not (mates_by_pawn p m)

-- Whether the side to move has a legal move.
unfoldable pub has_move : ShogiPosition → Bool
has_move p = some_move (is_legal p)

-- Whether the move breaks the rule.
abbrev pub broken : ShogiPosition → SMove → Illegal → Bool
broken p m illegal.NoSuchMove = not (is_movement p m)
broken p m illegal.NotInHand = drops_unheld p m
broken p m illegal.MustPromote = fails_to_promote p m
broken p m illegal.DeadDrop = drops_dead p m
broken p m illegal.TwoPawns = drops_second_pawn p m
broken p m illegal.KingAttacked = leaves_king p m
broken p m illegal.DropMate = mates_by_pawn p m

-- The first of the rules that fails the test.
abbrev pub first_of : (Illegal → Bool) → List Illegal → Answer
first_of fails [] = Ok tt
first_of fails (rule ∷ rules) = if fails rule then Err rule else first_of fails rules

-- The computed answer of a move check.
unfoldable pub check_of : ShogiPosition → SMove → Answer
check_of p m = first_of (broken p m) rules_in_order
