-- The order of the statements in a record: version, initial position, side to move first, moves, end.
use Rattle.std.specs.Prelude.{ℕ, ◌+◌, ◌==◌, ◌&&◌, nat_lt, Option, Some, None, List, [], ◌∷◌, if◌then◌else◌}
use Rattle.std.specs.Option.{option_map_or}
use Rattle.csa.specs.declared.lines.NumberedStatement.{NumberedStatement}
use Rattle.csa.specs.declared.order.RecordStage.{RecordStage}
use Rattle.csa.specs.declared.order.RecordStage.TheVariants as place
use Rattle.csa.specs.declared.statements.Statement.{Statement}
use Rattle.csa.specs.declared.statements.Statement.TheVariants as statement

-- a version comes first
abbrev pub after_version : RecordStage → Option RecordStage
after_version place.Start = Some place.Versioned
after_version _ = None

-- headers come before the first move
abbrev pub after_header : RecordStage → Option RecordStage
after_header place.Moved = None
after_header place.Ended = None
after_header p = Some p

-- `PI`, with no other initial position before it
abbrev pub after_opening : RecordStage → Option RecordStage
after_opening place.Start = Some place.Opened
after_opening place.Versioned = Some place.Opened
after_opening _ = None

-- the nine ranks in order, with no other initial position before them
abbrev pub after_row : RecordStage → ℕ → Option RecordStage
after_row place.Start rank = if rank == 1 then Some (place.Rows 1) else None
after_row place.Versioned rank = if rank == 1 then Some (place.Rows 1) else None
after_row (place.Rows passed) rank =
    if passed == 8 && rank == 9 then Some place.Opened else if nat_lt passed 8 && rank == passed + 1 then Some
    (place.Rows rank) else None
after_row _ rank = None

-- pieces come before the side to move first
abbrev pub after_pieces : RecordStage → Option RecordStage
after_pieces place.Start = Some place.Versioned
after_pieces place.Versioned = Some place.Versioned
after_pieces (place.Rows passed) = Some (place.Rows passed)
after_pieces place.Opened = Some place.Opened
after_pieces _ = None

-- The side to move first follows a complete initial position. Without an initial position the even one is used.
abbrev pub after_turn : RecordStage → Option RecordStage
after_turn place.Start = Some place.Sided
after_turn place.Versioned = Some place.Sided
after_turn place.Opened = Some place.Sided
after_turn _ = None

-- a move follows the side to move first or another move
abbrev pub after_move : RecordStage → Option RecordStage
after_move place.Sided = Some place.Moved
after_move place.Moved = Some place.Moved
after_move _ = None

-- a time follows a move, the end or another time
abbrev pub after_seconds : RecordStage → Option RecordStage
after_seconds place.Moved = Some place.Moved
after_seconds place.Ended = Some place.Ended
after_seconds _ = None

-- the end follows the side to move first or a move
abbrev pub after_end : RecordStage → Option RecordStage
after_end place.Sided = Some place.Ended
after_end place.Moved = Some place.Ended
after_end _ = None

-- the state after a statement, or None if it is malformed or misplaced
abbrev pub next : RecordStage → Statement → Option RecordStage
next p statement.Parting = Some place.Start
next p statement.Version = after_version p
next p statement.Header = after_header p
next p (statement.Opening _) = after_opening p
next p (statement.Row rank _) = after_row p rank
next p (statement.Pieces _) = after_pieces p
next p (statement.Turn _) = after_turn p
next p (statement.Move _) = after_move p
next p statement.Seconds = after_seconds p
next p (statement.End _) = after_end p
next p statement.Formless = None

-- the line of the first malformed or misplaced statement, from this state on
abbrev pub first_stray : RecordStage → List NumberedStatement → Option ℕ
first_stray p [] = None
first_stray p (placed ∷ more) = option_map_or (λ q. first_stray q more) (next p placed.statement) (Some placed.line)
