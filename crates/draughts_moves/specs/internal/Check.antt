-- The answer of a move check, by the rules and computed. No promise of the program rests on these definitions.
use Rattle.std.specs.Prelude.{Bool, false, ◌&&◌, ◌==◌, nat_lt, if◌then◌else◌, Ok, Err}
use Rattle.std.specs.List.{list_any}
use Rattle.std.specs.Option.{option_map_or}
use Rattle.std.specs.FinSet as set
use Rattle.squares.specs.declared.draughts.moves.DMove.{DMove}
use Rattle.squares.specs.DraughtsBoard.{Position}
use Rattle.squares.specs.DraughtsSets.{same_squares}
use Rattle.draughts_moves.specs.declared.checking.Illegal.TheVariants.{NoSuchMove, MustCapture, NotLongest}
use Rattle.draughts_moves.specs.Capture.{without}
use Rattle.draughts_moves.specs.Search.{own_at, routes_of, most}
use Rattle.draughts_moves.specs.internal.Search.{is_step}
use Rattle.draughts_moves.specs.Check.{Answer}

-- Whether a capture route with the move's start, end and captured pieces exists.
unfoldable pub is_capture : Position → DMove → Bool
is_capture p m =
    option_map_or
    (λ q. list_any (λ e. same_squares e.0 m.taken && e.1 == m.to)
    (routes_of (without p.board m.from) q (set.len m.taken) set.empty m.from)) (own_at p m.from) false

-- The answer for a quiet move, which is illegal while a capture exists.
abbrev pub check_quiet : Position → DMove → Answer
check_quiet p m = if is_step p m.from m.to then if nat_lt 0 (most p) then Err MustCapture else Ok tt else Err NoSuchMove

-- The answer for a capture, which is illegal if another one takes more pieces.
abbrev pub check_capture : Position → DMove → Answer
check_capture p m = if is_capture p m then if nat_lt (set.len m.taken) (most p) then Err NotLongest else Ok tt else Err
    NoSuchMove

-- The computed answer of a move check.
unfoldable pub check_of : Position → DMove → Answer
check_of p m = if set.len m.taken == 0 then check_quiet p m else check_capture p m
