-- The refusals of moves in both games: their numbers, their names and their texts.
use Rattle.std.specs.Prelude.{List, [], ℕ, ◌++◌, codes, decimal, Result, Ok, Err}
use Rattle.club_rules.specs.declared.names.GameKind.{GameKind}
use Rattle.club_rules.specs.declared.names.GameKind.TheVariants.{Draughts, Shogi}
use Rattle.club_rules.specs.declared.refusals.MoveRefusal.{MoveRefusal}
use Rattle.club_rules.specs.declared.refusals.MoveRefusal.TheVariants.{NoSuchMove, MustCapture, NotLongest, NotInHand}
use Rattle.club_rules.specs.declared.refusals.MoveRefusal.TheVariants.{MustPromote, DeadDrop, TwoPawns, KingAttacked}
use Rattle.club_rules.specs.declared.refusals.MoveRefusal.TheVariants.{DropMate, BadText, Ambiguous}

-- the result of a game's legality check, with its refusals translated to the club's
abbrev pub refused_by : {Cause : Type 0} →
    (Cause → MoveRefusal) → Result (Unit {0}) Cause → Result (Unit {0}) MoveRefusal
refused_by refusal_of (Ok u) = Ok u
refused_by refusal_of (Err cause) = Err (refusal_of cause)

-- the number of the refusal `NoSuchMove` in each game
abbrev pub no_such_move_number : GameKind → ℕ
no_such_move_number Draughts = 10
no_such_move_number Shogi = 13

-- the number of the refusal `BadText` in each game
abbrev pub bad_text_number : GameKind → ℕ
bad_text_number Draughts = 20
bad_text_number Shogi = 30

-- the number of a move's refusal
abbrev pub move_refusal_number : MoveRefusal → ℕ
move_refusal_number (NoSuchMove game) = no_such_move_number game
move_refusal_number MustCapture = 11
move_refusal_number NotLongest = 12
move_refusal_number NotInHand = 14
move_refusal_number MustPromote = 15
move_refusal_number DeadDrop = 16
move_refusal_number TwoPawns = 17
move_refusal_number KingAttacked = 18
move_refusal_number DropMate = 19
move_refusal_number (BadText game offset) = bad_text_number game
move_refusal_number Ambiguous = 21

-- the name of a move's refusal
abbrev pub move_refusal_name : MoveRefusal → List ℕ
move_refusal_name (NoSuchMove game) = codes "NoSuchMove"
move_refusal_name MustCapture = codes "MustCapture"
move_refusal_name NotLongest = codes "NotLongest"
move_refusal_name NotInHand = codes "NotInHand"
move_refusal_name MustPromote = codes "MustPromote"
move_refusal_name DeadDrop = codes "DeadDrop"
move_refusal_name TwoPawns = codes "TwoPawns"
move_refusal_name KingAttacked = codes "KingAttacked"
move_refusal_name DropMate = codes "DropMate"
move_refusal_name (BadText game offset) = codes "BadText"
move_refusal_name Ambiguous = codes "Ambiguous"

-- for a syntax error, a space and the offset
abbrev pub move_refusal_tail : MoveRefusal → List ℕ
move_refusal_tail (BadText game offset) = codes " " ++ decimal offset
move_refusal_tail _ = []
