-- The CSA reader as a function of the statements of a text. No promise of the program rests on these definitions.
use Rattle.std.specs.Prelude.{ℕ, zero, suc, ◌+◌, List, [], ◌∷◌, ◌++◌, length, slice_get, Bool, true, false, Option}
use Rattle.std.specs.Prelude.{Some, None, Result, Ok, Err, if◌then◌else◌}
use Rattle.std.specs.Option.{option_map}
use Rattle.std.specs.FinMap as map
use denote.Enum.Bare.{sameb}
use Rattle.squares.specs.contracts.shogi.piece.Role as role_of
use Rattle.squares.specs.declared.sides.Score.{Score}
use Rattle.squares.specs.declared.shogi.moves.SMove.{SMove}
use Rattle.squares.specs.declared.shogi.moves.SMove.TheVariants.{Step, Drop}
use Rattle.squares.specs.declared.shogi.piece.HandKind.{HandKind}
use Rattle.squares.specs.declared.shogi.piece.HandKind.TheVariants as in_hand
use Rattle.squares.specs.declared.shogi.piece.Role.{Role}
use Rattle.squares.specs.declared.shogi.piece.Role.TheVariants as role
use Rattle.squares.specs.declared.shogi.piece.SPiece.{SPiece}
use Rattle.squares.specs.Sides.{same_side}
use Rattle.squares.specs.ShogiOpening.{opening}
use Rattle.squares.specs.ShogiSets.{ShogiPosition}
use Rattle.shogi_moves.specs.declared.checking.Illegal.{Illegal}
use Rattle.shogi_moves.specs.declared.checking.Illegal.TheVariants as illegal
use Rattle.shogi_moves.specs.internal.Computed.{check_of}
use Rattle.shogi_moves.specs.Rules.{arrived}
use Rattle.shogi_repetition.specs.declared.ends.SEnd.{SEnd}
use Rattle.shogi_repetition.specs.internal.Computed.{end_of}
use Rattle.shogi_repetition.specs.Line.{last_position}
use Rattle.csa.specs.declared.faults.CsaFault.{CsaFault}
use Rattle.csa.specs.declared.faults.CsaFault.TheVariants as fault
use Rattle.csa.specs.declared.game.CsaGame.{CsaGame}
use Rattle.csa.specs.declared.lines.NumberedStatement.{NumberedStatement}
use Rattle.csa.specs.declared.order.RecordStage.TheVariants as place
use Rattle.csa.specs.declared.statements.Statement.{Statement}
use Rattle.csa.specs.declared.statements.Statement.TheVariants as statement
use Rattle.csa.specs.declared.statements.WrittenMove.{WrittenMove}
use Rattle.csa.specs.Endings.{says_declared}
use Rattle.csa.specs.Lines.{text_statements}
use Rattle.csa.specs.Order.{first_stray}
use Rattle.csa.specs.Reading.{first_statement, records_of}
use Rattle.csa.specs.Records.{begins_even, end_in, score_in}
use Rattle.csa.specs.Replays.{written_moves}
use Rattle.club_rules.specs.Records.{Recorded, Reading, game, no_part, refused}
use Rattle.club_games.specs.CsaRecord.{csa_refusal}

-- equality of roles, as `==` computes it
abbrev pub same_role : Role → Role → Bool
same_role a b = sameb role_of.the_type a b

-- whether a piece promotes in a step after which the record names it by this code; None if neither fits
abbrev pub promotion_of : SPiece → Role → Option Bool
promotion_of piece code =
    if same_role code piece.role
    then Some false
    else if same_role code (arrived piece true).role then Some true else None

-- whether the piece on the origin of a step promotes in it; None if there is no piece or its code differs
abbrev pub promotion_at : Option SPiece → Role → Option Bool
promotion_at None code = None
promotion_at (Some piece) code = promotion_of piece code

-- the kind of piece in hand with this code
abbrev pub dropped_kind : Role → Option HandKind
dropped_kind role.Rook = Some in_hand.Rook
dropped_kind role.Bishop = Some in_hand.Bishop
dropped_kind role.Gold = Some in_hand.Gold
dropped_kind role.Silver = Some in_hand.Silver
dropped_kind role.Knight = Some in_hand.Knight
dropped_kind role.Lance = Some in_hand.Lance
dropped_kind role.Pawn = Some in_hand.Pawn
dropped_kind _ = None

-- the move that a written move denotes, from its origin: a square, or None for the hand
abbrev pub meant_from : ShogiPosition → WrittenMove → Option ℕ → Option SMove
meant_from p w None = option_map (λ kind. Drop kind w.to) (dropped_kind w.role)
meant_from p w (Some from) = option_map (λ promote. Step from w.to promote) (promotion_at (map.get p.board from) w.role)

-- the move that a written move denotes in a position, if any
abbrev pub meant : ShogiPosition → WrittenMove → Option SMove
meant p w = if same_side w.side p.turn then meant_from p w w.from else None

-- the moves of a record, or its fault
abbrev pub Replayed : Type 0
Replayed = Result (List SMove) CsaFault

-- a checked move: the rest of the replay if it is legal, else a fault at its ply
abbrev pub go_on : ℕ → Replayed → Result (Unit {0}) Illegal → Replayed
go_on ply rest (Ok u) = rest
go_on ply rest (Err cause) = Err (fault.Illegal ply cause)

-- the next move of a replay: a fault if the game has ended, or if the text denotes no legal move
abbrev pub replay_next : List SMove → (SMove → Replayed) → Option SEnd → Option SMove → Replayed
replay_next ms rest (Some end) m = Err (fault.AfterEnd (length ms + 1))
replay_next ms rest None None = Err (fault.Illegal (length ms + 1) illegal.NoSuchMove)
replay_next ms rest None (Some m) = go_on (length ms + 1) (rest m) (check_of (last_position opening ms) m)

-- the replay of written moves after these moves
abbrev pub replayed : List SMove → List WrittenMove → Replayed
replayed ms [] = Ok ms
replayed ms (w ∷ ws) =
    replay_next ms (λ m. replayed (ms ++ m ∷ []) ws) (end_of opening ms) (meant (last_position opening ms) w)

-- the game of a record, or its fault
abbrev pub RecordRead : Type 0
RecordRead = Result (Recorded SMove) CsaFault

-- the game with these moves and this score, or the fault of the score
abbrev pub with_score : Bool → List SMove → Result Score CsaFault → RecordRead
with_score declared ms (Ok score) = Ok (record { moves = ms; score = score; declared = declared })
with_score declared ms (Err f) = Err f

-- the game of a record after the replay of its moves, or the fault of the replay
abbrev pub with_moves : List NumberedStatement → Replayed → RecordRead
with_moves placed (Ok ms) =
    with_score (says_declared (end_in placed)) ms (score_in placed ms (end_of opening ms))
with_moves placed (Err f) = Err f

-- the game of a record
abbrev pub record_reading : List NumberedStatement → RecordRead
record_reading placed =
    if begins_even placed then with_moves placed (replayed [] (written_moves placed)) else Err fault.OtherOpening

-- the games of a text, or its fault
abbrev pub RecordsRead : Type 0
RecordsRead = Result (List (Recorded SMove)) CsaFault

-- the game of a record before the games of later records, or the first fault
abbrev pub and_more : RecordRead → RecordsRead → RecordsRead
and_more (Err f) more = Err f
and_more (Ok g) (Err f) = Err f
and_more (Ok g) (Ok gs) = Ok (g ∷ gs)

-- the games of the records, or the fault of the first record that is refused
abbrev pub records_reading : List (List NumberedStatement) → RecordsRead
records_reading [] = Ok []
records_reading (placed ∷ records) = and_more (record_reading placed) (records_reading records)

-- the games of the statements, or a syntax error at the line of the first one out of order
abbrev pub ordered_reading : List NumberedStatement → Option ℕ → RecordsRead
ordered_reading placed (Some line) = Err (fault.BadText line)
ordered_reading placed None = records_reading (records_of placed)

-- whether a statement is a version
abbrev pub is_version : Statement → Bool
is_version statement.Version = true
is_version _ = false

-- the statements must begin with a version and be in order
abbrev pub statements_reading : List NumberedStatement → Option Statement → RecordsRead
statements_reading placed None = Err (fault.BadText 1)
statements_reading placed (Some first) =
    if is_version first then ordered_reading placed (first_stray place.Start placed) else Err fault.Version

-- the games of a text, or its fault
unfoldable pub csa_reading : List ℕ → RecordsRead
csa_reading text = statements_reading (text_statements text) (first_statement (text_statements text))

-- a game that was read, as the club's type
abbrev pub game_of : CsaGame → Recorded SMove
game_of g = record { moves = g.moves.items; score = g.score; declared = g.declared }

-- a game that was found, or no such part
abbrev pub found_game : Option (Recorded SMove) → Reading SMove
found_game None = no_part
found_game (Some r) = game r

-- the game after the first `before` games of a text, or the refusal of the text
abbrev pub part_of : ℕ → RecordsRead → Reading SMove
part_of before (Err f) = refused (csa_refusal f)
part_of before (Ok games) = found_game (slice_get games before)

-- a part of a text; parts count from 1
abbrev pub csa_part : List ℕ → ℕ → Reading SMove
csa_part text zero = no_part
csa_part text (suc before) = part_of before (csa_reading text)
