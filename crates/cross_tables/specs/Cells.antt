-- The cells of a cross table.
use Rattle.std.specs.Prelude.{◌==◌, ◌&&◌, ℕ, List, Option, Some, None, codes, if◌then◌else◌}
use Rattle.std.specs.List.{find}
use Rattle.std.specs.Fmt.{decimal}
use Rattle.cross_tables.specs.declared.sums.OpponentScore.{OpponentScore}
use Rattle.cross_tables.specs.declared.cells.Cell.{Cell}
use Rattle.cross_tables.specs.declared.cells.Cell.TheVariants.{Oneself, Unplayed, Points}

-- The cell of a score row, or `Unplayed` if there is none.
abbrev pub points_cell : Option OpponentScore → Cell
points_cell None = Unplayed
points_cell (Some row) = Points row.sums.points

-- The score row of a member against another one, among the rows of an event.
abbrev pub row_of : List OpponentScore → ℕ → ℕ → Option OpponentScore
row_of rows member other = find (λ row. row.member == member && row.opponent == other) rows

-- The cell of a member against another member, or against himself.
abbrev pub cell_of : List OpponentScore → ℕ → ℕ → Cell
cell_of rows member other = if member == other then Oneself else points_cell (row_of rows member other)

-- The points, `-` against oneself, or `.` if no game against the opponent has ended.
abbrev pub cell_text : Cell → List ℕ
cell_text Oneself = codes "-"
cell_text Unplayed = codes "."
cell_text (Points points) = decimal points
