-- The rulings on many running games, as the lines of a batch.
use Rattle.std.specs.Prelude.{ℕ, ◌+◌, Bool, true, false, not, ◌&&◌, List, [], ◌∷◌, ◌++◌, Option, Some}
use Rattle.std.specs.Prelude.{codes, decimal, string_bytes, if◌then◌else◌}
use Rattle.std.specs.Str.{bytes_eq}
use Rattle.squares.specs.declared.sides.Side.{Side}
use Rattle.squares.specs.declared.sides.Side.TheVariants.{First, Second}
use Rattle.squares.specs.Sides.{loses}
use Rattle.club_requests.specs.declared.questions.BulkRuling.{BulkRuling}
use Rattle.club_requests.specs.declared.questions.BulkRuling.TheVariants.{Retire, Extend}
use Rattle.club_requests.specs.declared.refusals.Refusal.{Refusal}
use Rattle.club_requests.specs.declared.refusals.Refusal.TheVariants.{BadValue, UnknownEvent}
use Rattle.club_requests.specs.declared.rulings.Ruling.{Ruling}
use Rattle.club_requests.specs.declared.rulings.Ruling.TheVariants.{Grant, Award, Void}
use Rattle.club_requests.specs.Outcome.{first_refusal}
use Rattle.club_requests.specs.Rulings.{ruling_text}
use Rattle.club_core.specs.Events.{Event, has_event_name}
use Rattle.club_core.specs.Members.{Member}
use Rattle.club_core.specs.Seats.{has_member_name}
use Rattle.club_lists.specs.GameSummary.{GameSummary, is_over}
use Rattle.club_lists.specs.Listing.{first_name, has_asked, is_unknown}
use Rattle.club_lists.specs.Shows.{is_of_event}

-- ---- the rulings on a game

-- the ruling on a game of a member who retires as this side: the opponent wins, or the game is void
abbrev pub retired : (is_loss : Bool) → Side → Ruling
retired true side = Award (loses side)
retired false side = Void

-- the side of a player of the game, by the name
abbrev pub side_of : List Member → List ℕ → GameSummary → Side
side_of members name told = if bytes_eq (first_name members told) name then First else Second

-- ---- lines

-- `rule GAME NUMBER`, followed by the ruling
abbrev pub rule_line : (game number : ℕ) → Ruling → List ℕ
rule_line game number ruling =
    codes "rule " ++ (decimal game ++ (codes " " ++ (decimal number ++ (codes " " ++ (ruling_text ruling
    ++ codes "\n")))))

-- the lines for a running game with this many rulings: one for a member who retires, one for each side that has more
-- time
abbrev pub game_orders : List Member → BulkRuling → GameSummary → (count : ℕ) → List ℕ
game_orders members (Retire member event is_loss) told count =
    rule_line told.id (count + 1) (retired is_loss (side_of members (string_bytes member) told))
game_orders members (Extend event seconds) told count =
    rule_line told.id (count + 1) (Grant First seconds) ++ rule_line told.id (count + 2) (Grant Second seconds)

-- ---- the games

-- the game is one of the event and of the member that are named
abbrev pub is_named : List Member → List Event → BulkRuling → GameSummary → Bool
is_named members events (Retire member event is_loss) told =
    is_of_event events (string_bytes event) told && has_asked members (Some (string_bytes member)) told
is_named members events (Extend event seconds) told = is_of_event events (string_bytes event) told

-- the game is running, and one of the event and of the member that are named
abbrev pub is_ruled : List Member → List Event → BulkRuling → GameSummary → Bool
is_ruled members events bulk told = not (is_over told) && is_named members events bulk told

-- the lines for the running games that are named, in their order; `count` is the number of rulings on a game, by its id
abbrev pub ruling_orders : List Member → List Event → (count : ℕ → ℕ) → BulkRuling → List GameSummary → List ℕ
ruling_orders members events count bulk [] = []
ruling_orders members events count bulk (told ∷ games) =
    (if is_ruled members events bulk told then game_orders members bulk told (count told.id) else [])
    ++ ruling_orders members events count bulk games

-- ---- refusals

-- the event or the member that is named does not exist
abbrev pub bulk_refusal : List Member → List Event → BulkRuling → Option Refusal
bulk_refusal members events (Retire member event is_loss) =
    first_refusal
    ((is_unknown has_event_name events (Some (string_bytes event)), UnknownEvent)
    ∷ (is_unknown has_member_name members (Some (string_bytes member)), BadValue)
    ∷ [])
bulk_refusal members events (Extend event seconds) =
    first_refusal ((is_unknown has_event_name events (Some (string_bytes event)), UnknownEvent) ∷ [])
