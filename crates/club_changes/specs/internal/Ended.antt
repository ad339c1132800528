-- The row of a game that is lost on time. No promise of the program rests on these definitions.
use Rattle.std.specs.Prelude.{[], ◌∷◌, string_bytes}
use Rattle.sqlite_value.specs.declared.value.Value.TheVariants.{Int, Text}
use Rattle.sqlite.specs.Values.{or_null}
use Rattle.sqlite.specs.Order.{Row}
use Rattle.squares.specs.declared.sides.Score.{Score}
use Rattle.squares.specs.Sides.{score_text}
use Rattle.club_requests.specs.declared.outside_end.OutsideEnd.TheVariants.{Time}
use Rattle.club_requests.specs.OutsideEnd.{outside_text}
use Rattle.store_tables.specs.declared.rows.GameTableRow.{GameTableRow}

-- the values of the row with the end `Time` and this score
abbrev pub cells_lost : GameTableRow → Score → Row
cells_lost r score =
    Int r.id ∷ or_null (λ s. Text (string_bytes s)) r.key ∷ Int r.event ∷ Int r.first ∷ Int r.second ∷ Int r.start
    ∷ Int r.since ∷ Int r.plies ∷ Int r.left1 ∷ Int r.left2
    ∷ or_null Int r.offer_side ∷ or_null Int r.offer_ply ∷ Text (outside_text Time) ∷ Text (score_text score)
    ∷ Text (string_bytes r.position) ∷ Int r.track_a ∷ Int r.track_b ∷ []
