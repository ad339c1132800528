-- The games of an event whose records are exported.
use Rattle.std.specs.Prelude.{ℕ, List, map, filter}
use Rattle.club_core.specs.Events.{Event}
use Rattle.club_lists.specs.Shows.{is_of_event}
use Rattle.club_lists.specs.GameSummary.{GameSummary}

-- ids of the games of the event with this name, in order
abbrev pub event_game_ids : List Event → List ℕ → List GameSummary → List ℕ
event_game_ids events name games = map (λ told. told.id) (filter (is_of_event events name) games)
