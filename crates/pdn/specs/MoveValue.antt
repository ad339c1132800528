-- The writer and the reader of moves as functions of the position.
use Rattle.std.specs.Prelude.{ℕ, ◌==◌, List, [], ◌∷◌}
use Rattle.std.specs.Prelude.{if◌then◌else◌}
use Rattle.std.specs.List.{list_any}
use Rattle.std.specs.Option.{option_map_or}
use Rattle.std.specs.FinSet as set
use Rattle.squares.specs.declared.draughts.moves.DMove.{DMove}
use Rattle.squares.specs.DraughtsBoard.{Position}
use Rattle.squares.specs.OrderedLists.{put_all}
use Rattle.draughts_moves.specs.Capture.{without}
use Rattle.draughts_moves.specs.Search.{own_at, most}
use Rattle.draughts_moves.specs.Listing.{moves}
use Rattle.draughts_moves.specs.Routes.{route_cmp, landings_of}
pub use Rattle.pdn.specs.ReadMove.{Reading}
use Rattle.pdn.specs.MoveText.{is_like, quiet_text, capture_text}

-- the legal moves, possibly with duplicates
unfoldable pub legal_moves : Position → List DMove
legal_moves p = moves p (most p)

-- the routes of a capture
unfoldable pub routes_in : Position → DMove → List (List ℕ)
routes_in p m =
    option_map_or (λ q. landings_of (without p.board m.from) q m.taken m.to (set.len m.taken) set.empty m.from)
    (own_at p m.from) []

-- the first route, or `none` if there is no route
abbrev pub first_of : List (List ℕ) → List ℕ → List ℕ
first_of [] none = none
first_of (route ∷ routes) none = route

-- the landing squares that the text of a capture names
abbrev pub named : Position → DMove → List ℕ
named p m = if list_any (is_like m) (legal_moves p) then first_of (put_all route_cmp (routes_in p m) [])
    (m.to ∷ []) else m.to ∷ []

-- the text of a move in a position
unfoldable pub move_text : Position → DMove → List ℕ
move_text p m = if set.len m.taken == 0 then quiet_text m.from m.to else capture_text m.from (named p m)
