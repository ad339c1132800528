-- The execution of requests by the program of each schema: the state after a request is what the tables of that schema
-- hold of it.
use Rattle.std.specs.Prelude.{false, if◌then◌else◌, List, [], ◌∷◌, map}
use Rattle.store_tables.specs.declared.names.Version.{Version}
use Rattle.store_tables.specs.declared.names.Version.TheVariants.{V1, V2, V3}
use Rattle.club_core.specs.Events.{Event}
use Rattle.club_core.specs.State.{Request, is_accepted}
use Rattle.club_rows.specs.Club.{ClubState}
use Rattle.club_changes.specs.Steps.{club_next, club_step}

-- the event, with declarations not allowed
abbrev pub without_declarations : Event → Event
without_declarations e = record e { terms = record e.terms { declares = false } }

-- the state in which no event allows declarations
abbrev pub undeclared : ClubState → ClubState
undeclared s = record s { events = map without_declarations s.events }

-- what the tables of this schema hold of a state; those of schema 1 hold no declarations
abbrev pub held_in : Version → ClubState → ClubState
held_in V1 s = undeclared s
held_in V2 s = s
held_in V3 s = s

-- the state after a request to the program of this schema
abbrev pub next_in : Version → ClubState → Request → ClubState
next_in version s r = held_in version (club_next s r)

-- the state after the requests
abbrev pub fold_in : Version → ClubState → List Request → ClubState
fold_in version s [] = s
fold_in version s (r ∷ rs) = fold_in version (next_in version s r) rs

-- the accepted requests
abbrev pub accepted_in : Version → ClubState → List Request → List Request
accepted_in version s [] = []
accepted_in version s (r ∷ rs) =
    if is_accepted (club_step s r) then r ∷ accepted_in version (next_in version s r) rs
    else accepted_in version (next_in version s r) rs
