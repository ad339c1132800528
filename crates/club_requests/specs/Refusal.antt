-- Refusals of commands: their numbers, names and printed form.
use Rattle.std.specs.Prelude.{List, [], ℕ, ◌++◌, codes, decimal}
use Rattle.club_rules.specs.MoveRefusal.{move_refusal_number, move_refusal_name, move_refusal_tail}
use Rattle.club_rules.specs.RecordRefusal.{record_refusal_number, record_refusal_name, record_refusal_tail}
use Rattle.club_rules.specs.declared.refusals.MoveRefusal.{MoveRefusal}
use Rattle.club_rules.specs.declared.refusals.MoveRefusal.TheVariants.{Ambiguous}
use Rattle.club_requests.specs.declared.refusals.Refusal.{Refusal}
use Rattle.club_requests.specs.declared.refusals.Refusal.TheVariants.{UnknownKey, NotAllowed, UnknownEvent, UnknownGame}
use Rattle.club_requests.specs.declared.refusals.Refusal.TheVariants.{UnknownChallenge, NotAPlayer, NotInThisGame}
use Rattle.club_requests.specs.declared.refusals.Refusal.TheVariants.{GameOver}
use Rattle.club_requests.specs.declared.refusals.Refusal.TheVariants.{WrongPly, Conflict, NotYourTurn, OutOfTime}
use Rattle.club_requests.specs.declared.refusals.Refusal.TheVariants.{TimeLeft}
use Rattle.club_requests.specs.declared.refusals.Refusal.TheVariants.{NoOffer, NameTaken, BadValue, Full, NotDeclarable}
use Rattle.club_requests.specs.declared.refusals.Refusal.TheVariants.{EventClosed}
use Rattle.club_requests.specs.declared.refusals.Refusal.TheVariants.{Play, Record}

-- the number of a refusal
abbrev pub refusal_number : Refusal → ℕ
refusal_number UnknownKey = 50
refusal_number NotAllowed = 51
refusal_number UnknownEvent = 52
refusal_number UnknownGame = 53
refusal_number UnknownChallenge = 54
refusal_number NotAPlayer = 55
refusal_number NotInThisGame = 63
refusal_number GameOver = 56
refusal_number WrongPly = 57
refusal_number Conflict = 58
refusal_number NotYourTurn = 59
refusal_number OutOfTime = 60
refusal_number TimeLeft = 61
refusal_number NoOffer = 62
refusal_number NameTaken = 64
refusal_number BadValue = 65
refusal_number Full = 66
refusal_number NotDeclarable = 67
refusal_number EventClosed = 68
refusal_number (Play ply refusal) = move_refusal_number refusal
refusal_number (Record refusal) = record_refusal_number refusal

-- the name of a refusal
abbrev pub refusal_name : Refusal → List ℕ
refusal_name UnknownKey = codes "UnknownKey"
refusal_name NotAllowed = codes "NotAllowed"
refusal_name UnknownEvent = codes "UnknownEvent"
refusal_name UnknownGame = codes "UnknownGame"
refusal_name UnknownChallenge = codes "UnknownChallenge"
refusal_name NotAPlayer = codes "NotAPlayer"
refusal_name NotInThisGame = codes "NotInThisGame"
refusal_name GameOver = codes "GameOver"
refusal_name WrongPly = codes "WrongPly"
refusal_name Conflict = codes "Conflict"
refusal_name NotYourTurn = codes "NotYourTurn"
refusal_name OutOfTime = codes "OutOfTime"
refusal_name TimeLeft = codes "TimeLeft"
refusal_name NoOffer = codes "NoOffer"
refusal_name NameTaken = codes "NameTaken"
refusal_name BadValue = codes "BadValue"
refusal_name Full = codes "Full"
refusal_name NotDeclarable = codes "NotDeclarable"
refusal_name EventClosed = codes "EventClosed"
refusal_name (Play ply refusal) = move_refusal_name refusal
refusal_name (Record refusal) = record_refusal_name refusal

-- the ply if the text is ambiguous, otherwise the parameters of the move's refusal
abbrev pub play_tail : ℕ → MoveRefusal → List ℕ
play_tail ply Ambiguous = codes " " ++ decimal ply
play_tail ply refusal = move_refusal_tail refusal

-- the parameters that follow the name, each after a space
abbrev pub refusal_tail : Refusal → List ℕ
refusal_tail (Play ply refusal) = play_tail ply refusal
refusal_tail (Record refusal) = record_refusal_tail refusal
refusal_tail UnknownKey = []
refusal_tail NotAllowed = []
refusal_tail UnknownEvent = []
refusal_tail UnknownGame = []
refusal_tail UnknownChallenge = []
refusal_tail NotAPlayer = []
refusal_tail NotInThisGame = []
refusal_tail GameOver = []
refusal_tail WrongPly = []
refusal_tail Conflict = []
refusal_tail NotYourTurn = []
refusal_tail OutOfTime = []
refusal_tail TimeLeft = []
refusal_tail NoOffer = []
refusal_tail NameTaken = []
refusal_tail BadValue = []
refusal_tail Full = []
refusal_tail NotDeclarable = []
refusal_tail EventClosed = []

-- the number, the name and the parameters, separated by spaces
abbrev pub refusal_text : Refusal → List ℕ
refusal_text r = decimal (refusal_number r) ++ codes " " ++ refusal_name r ++ refusal_tail r
