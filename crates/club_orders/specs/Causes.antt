-- The subject of the explanation of a refused command.
use Rattle.std.specs.Prelude.{length, Option, Some, None, if◌then◌else◌, nat_lt, ◌==◌, string_bytes}
use Rattle.std.specs.Str.{bytes_eq}
use Rattle.club_requests.specs.Limits.{is_budget, is_member_key, is_name, most_record_bytes}
use Rattle.club_requests.specs.declared.refusals.Refusal.{Refusal}
use Rattle.club_requests.specs.declared.refusals.Refusal.TheVariants.{BadValue}
use Rattle.club_requests.specs.declared.requests.AddMember.{AddMember}
use Rattle.club_requests.specs.declared.requests.AddEvent.{AddEvent}
use Rattle.club_requests.specs.declared.requests.Seat.{Seat}
use Rattle.club_requests.specs.declared.requests.Import.{Import}
use Rattle.club_requests.specs.declared.requests.NewKey.{NewKey}
use Rattle.club_requests.specs.declared.requests.Rule.{Rule}
use Rattle.club_requests.specs.Rulings.{has_grant_time}
use Rattle.club_requests.specs.declared.requests.GameCommand.{GameCommand}
use Rattle.club_requests.specs.declared.requests.GameCommand.TheVariants.{Move}
use Rattle.club_requests.specs.declared.requests.Command.{Command}
use Rattle.club_requests.specs.declared.requests.Command.TheVariants as command
use Rattle.club_orders.specs.declared.causes.Explanation.{Explanation}
use Rattle.club_orders.specs.declared.causes.Explanation.TheVariants as explanation
use Rattle.club_orders.specs.declared.causes.WrongValue.{WrongValue}
use Rattle.club_orders.specs.declared.causes.WrongValue.TheVariants.{MemberName, MemberKey, KeyOwner, EventName}
use Rattle.club_orders.specs.declared.causes.WrongValue.TheVariants.{Budget, GrantTime, RulingNumber}
use Rattle.club_orders.specs.declared.causes.WrongValue.TheVariants.{Increment, GameKey, SamePlayer, UnknownPlayer}
use Rattle.club_orders.specs.declared.causes.WrongValue.TheVariants.{RecordLength, NoPart, PlayerOrRecord, MoveText}

-- the first value that is invalid in itself; if all others are valid, the last one

-- the wrong value of a new member: the name or the key
abbrev pub value_of_member : AddMember → WrongValue
value_of_member m = if is_name (string_bytes m.name) then MemberKey else MemberName

-- the wrong value of a member's new key: the key, or the member or the number
abbrev pub value_of_key : NewKey → WrongValue
value_of_key k = if is_member_key (string_bytes k.key) then KeyOwner else MemberKey

-- the wrong value of a ruling: the time that it grants, or its number
abbrev pub value_of_ruling : Rule → WrongValue
value_of_ruling r = if has_grant_time r.ruling then RulingNumber else GrantTime

-- the wrong value of a new event: the name, the budget or the increment
abbrev pub value_of_event : AddEvent → WrongValue
value_of_event e =
    if is_name (string_bytes e.name) then (if is_budget e.budget then Increment else Budget) else EventName

-- the wrong value of a new game: the key, the same player twice, or an unknown player
abbrev pub value_of_seat : Seat → WrongValue
value_of_seat s =
    if is_name (string_bytes s.key)
    then (if bytes_eq (string_bytes s.first) (string_bytes s.second) then SamePlayer else UnknownPlayer)
    else GameKey

-- the wrong value of an imported record: its length, its part, or a player or the record itself
abbrev pub value_of_record : Import → WrongValue
value_of_record i =
    if nat_lt most_record_bytes (length i.text.items) then RecordLength
    else (if i.part == 0 then NoPart else PlayerOrRecord)

-- the wrong value of an import: the game's key, the same player twice, or a value of the record
abbrev pub value_of_import : Import → WrongValue
value_of_import i =
    if is_name (string_bytes i.key)
    then (if bytes_eq (string_bytes i.first) (string_bytes i.second) then SamePlayer else value_of_record i)
    else GameKey

-- the wrong value of a command on a game, which can only be the text of a move
abbrev pub value_on_game : GameCommand → Option WrongValue
value_on_game (Move ply text) = Some MoveText
value_on_game _ = None

-- the value that a command is refused for, if the command alone shows it
abbrev pub wrong_value : Command → Option WrongValue
wrong_value (command.AddMember c) = Some (value_of_member c)
wrong_value (command.AddEvent c) = Some (value_of_event c)
wrong_value (command.Seat c) = Some (value_of_seat c)
wrong_value (command.Import c) = Some (value_of_import c)
wrong_value (command.OnGame c) = value_on_game c.command
wrong_value (command.NewKey c) = Some (value_of_key c)
wrong_value (command.Rule c) = Some (value_of_ruling c)
wrong_value _ = None

-- the explanation of the wrong value, or of the refusal 65 if the command does not show one
abbrev pub value_explained : Option WrongValue → Explanation
value_explained (Some value) = explanation.Value value
value_explained None = explanation.Refusal BadValue

-- the refused value for 65, otherwise the refusal itself
abbrev pub refusal_explained : Refusal → Command → Explanation
refusal_explained BadValue command = value_explained (wrong_value command)
refusal_explained refusal command = explanation.Refusal refusal
