-- The text lines of a cross table.
use Rattle.std.specs.Prelude.{◌-◌, ℕ, List, ◌++◌, length, codes}
use Rattle.std.specs.List.{flat_map, repeat}
use Rattle.std.specs.Fmt.{decimal}
use Rattle.cross_tables.specs.declared.sums.ScoreTotals.{ScoreTotals}
use Rattle.cross_tables.specs.declared.cells.Cell.{Cell}
use Rattle.cross_tables.specs.Totals.{games}
use Rattle.cross_tables.specs.Cells.{cell_text}

-- Spaces that pad a text to a width.
unfoldable pub filler : ℕ → List ℕ → List ℕ
filler width text = repeat (width - length text) (codes " ")

-- The text, aligned to the right in a column of this width.
abbrev pub right_in : ℕ → List ℕ → List ℕ
right_in width text = filler width text ++ text

-- The text, aligned to the left in a column of this width.
abbrev pub left_in : ℕ → List ℕ → List ℕ
left_in width text = text ++ filler width text

-- The number, aligned to the right in a column of this width.
abbrev pub number_in : ℕ → ℕ → List ℕ
number_in width number = right_in width (decimal number)

-- Points, games, wins, draws and losses.
abbrev pub sums_text : ScoreTotals → List ℕ
sums_text sums =
    number_in 6 sums.points
    ++ (number_in 6 (games sums) ++ (number_in 6 sums.wins ++ (number_in 6 sums.draws ++ number_in 6 sums.losses)))

-- The cells of a line, each in a column of width 6.
abbrev pub cells_text : List Cell → List ℕ
cells_text cells = flat_map (λ cell. right_in 6 (cell_text cell)) cells

-- The first line of the cross table of an event.
abbrev pub header_text : List ℕ → List ℕ
header_text event = codes "Event " ++ event

-- Place, name, totals, and a cell for each member of the table.
abbrev pub line_text : ℕ → List ℕ → ScoreTotals → List Cell → List ℕ
line_text place name sums cells =
    number_in 3 place ++ (codes " " ++ (left_in 24 name ++ (sums_text sums ++ cells_text cells)))
