-- The batch that seats a round robin.
use Rattle.std.specs.Prelude.{◌≡◌, ⊤, ℕ, ◌+◌, ◌-◌, Bool, false, not, nat_lt, ◌||◌, List, [], ◌∷◌, ◌++◌, length, map}
use Rattle.std.specs.Prelude.{Option, Some, None, option_map, get_or}
use Rattle.std.specs.Prelude.{codes, decimal, string_bytes}
use Rattle.std.specs.List.{list_all, list_any, range_with_len}
use Rattle.std.specs.Str.{bytes_eq}
use Rattle.std.specs.declared.alloc.Global.{Global}
use Rattle.std.specs.declared.string.String.{String}
use Rattle.pairings.specs.declared.table.BoardPairing.{BoardPairing}
use Rattle.pairings.specs.Table.{all_games}
use Rattle.club_requests.specs.Limits.{is_name}
use Rattle.club_requests.specs.Outcome.{first_refusal}
use Rattle.club_requests.specs.declared.refusals.Refusal.{Refusal}
use Rattle.club_requests.specs.declared.refusals.Refusal.TheVariants.{BadValue, UnknownEvent}
use Rattle.club_requests.specs.declared.questions.GameFilter.{GameFilter}
use Rattle.club_requests.specs.declared.questions.GameFilter.TheVariants.{All}
use Rattle.club_requests.specs.declared.questions.Question.{Question}
use Rattle.club_requests.specs.declared.questions.Question.TheVariants.{Games}
use Rattle.club_requests.specs.declared.requests.Command as given_command
use Rattle.club_requests.specs.declared.requests.Command.TheVariants as given
use Rattle.club_requests.specs.declared.requests.Request as given_request
use Rattle.club_requests.specs.declared.requests.Seat as given_seat
use Rattle.club_core.specs.State.{Command, Request, seat, officer}
use Rattle.cli.specs.declared.batches.RoundRobin.{RoundRobin}
use Rattle.club_batches.specs.declared.seats.SeatError.{SeatError}
use Rattle.club_batches.specs.declared.seats.SeatError.TheVariants as seat_error

-- two names are equal
abbrev pub is_same : String Global → String Global → Bool
is_same one other = bytes_eq (string_bytes one) (string_bytes other)

-- a name occurs twice
abbrev pub has_twice : List (String Global) → Bool
has_twice [] = false
has_twice (name ∷ names) = list_any (is_same name) names || has_twice names

-- the key of a game; board 3 of round 1 has PREFIX1.3
abbrev pub key_of : List ℕ → BoardPairing → List ℕ
key_of prefix game = prefix ++ (decimal game.round ++ (codes "." ++ decimal game.board))

-- the name of a player; players count from 1
abbrev pub name_at : List (List ℕ) → ℕ → List ℕ
name_at names player = get_or names (player - 1) []

-- the `seat` command of a game of the pairing table
abbrev pub seat_command : RoundRobin → BoardPairing → Command
seat_command robin game =
    seat (key_of (string_bytes robin.prefix) game) (string_bytes robin.event)
    (name_at (map string_bytes robin.names.items) game.first)
    (name_at (map string_bytes robin.names.items) game.second)

-- the officer's request to seat a game of the pairing table
abbrev pub seat_request : RoundRobin → (moment : ℕ) → BoardPairing → Request
seat_request robin moment game = record { who = officer; command = seat_command robin game; moment = moment }

-- the numbers from 1 to `count`
abbrev pub numbers_to : ℕ → List ℕ
numbers_to count = map (λ place. place + 1) (range_with_len 0 count)

-- ---- refusals

-- the games of the round robin: the Berger table of its players
abbrev pub games_of : RoundRobin → List BoardPairing
games_of robin = all_games (length robin.names.items) robin.is_double

-- tests of the names in their order, each with its refusal
abbrev pub name_tests : RoundRobin → List (Bool × Refusal)
name_tests robin =
    (not (is_name (string_bytes robin.event)), UnknownEvent)
    ∷ (has_twice robin.names.items, BadValue)
    ∷ (not (list_all (λ name. is_name (string_bytes name)) robin.names.items), BadValue)
    ∷ []

-- there are fewer than 2 or more than 32 players
abbrev pub has_wrong_number : RoundRobin → Bool
has_wrong_number robin = nat_lt (length robin.names.items) 2 || nat_lt 32 (length robin.names.items)

-- the keys of these games are valid
abbrev pub are_keys : List ℕ → List BoardPairing → Bool
are_keys prefix games = list_all (λ game. is_name (key_of prefix game)) games

-- tests of a round robin in their order, each with its refusal: the number of players, the names, the keys
abbrev pub robin_tests : RoundRobin → List (Bool × Refusal)
robin_tests robin =
    (has_wrong_number robin, BadValue)
    ∷ name_tests robin ++ (not (are_keys (string_bytes robin.prefix) (games_of robin)), BadValue) ∷ []

-- the refusal of a round robin before the club is read
abbrev pub robin_refusal : RoundRobin → Option Refusal
robin_refusal robin = first_refusal (robin_tests robin)

-- the error is the refusal of the round robin, or out of memory
abbrev pub IsSeatError : RoundRobin → SeatError → Type 0
IsSeatError robin (seat_error.Refused refusal) = robin_refusal robin ≡ Some refusal
IsSeatError robin seat_error.Memory = ⊤

-- ---- queries

-- the member of a query for all games of a member in any event
abbrev pub name_asked : (event member : Option (String Global)) → GameFilter → Option (List ℕ)
name_asked None member All = option_map string_bytes member
name_asked None member _ = None
name_asked (Some event) member which = None

-- the member of a query, if it is for all games of a member in any event
abbrev pub asked_name : Question → Option (List ℕ)
asked_name (Games listing) = name_asked listing.event listing.member listing.which
asked_name _ = None

-- ---- lines

-- a `seat` command as a line of a batch
abbrev pub seat_line : given_seat.Seat → List ℕ
seat_line s =
    codes "seat " ++ string_bytes s.key ++ codes " " ++ string_bytes s.event ++ codes " " ++ string_bytes s.first
    ++ codes " " ++ string_bytes s.second ++ codes "\n"

-- a command as a line of a batch; nothing if it is not `seat`
abbrev pub line_of : given_command.Command → List ℕ
line_of (given.Seat s) = seat_line s
line_of _ = []

-- the `seat` commands of these requests as lines of a batch
abbrev pub seat_lines : List given_request.Request → List ℕ
seat_lines [] = []
seat_lines (r ∷ rs) = line_of r.command ++ seat_lines rs
