-- When rows are those of the positions of a game, in any order. No promise of the program rests on these definitions.
use Rattle.std.specs.Prelude.{◌≡◌, ◌≢◌, ℕ, List, ◌∷◌, map, Option, Some, None, slice_get, string_bytes}
use Rattle.std.specs.Borrow.{Bor}
use Rattle.std.specs.HashMap.{HashMap, get_by}
use Rattle.std.specs.Str.{bytes_eq}
use Rattle.store_tables.specs.Cells.{seen_cells}
use Rattle.store_tables.specs.declared.rows.MoveRow.{MoveRow}
use Rattle.store_tables.specs.declared.rows.SeenRow.{SeenRow}
use Rattle.club_rows.specs.Seen.{times_in, seen_row}
use Rattle.club_rows.specs.internal.Seen.{FirstAt}
use Rattle.club_rows.specs.declared.tally.Occurrences.{Occurrences}

-- ---- counts

-- the positions of a line: the initial one, then the one in each move's row
abbrev pub texts_in : List ℕ → List MoveRow → List (List ℕ)
texts_in start moves = start ∷ map (λ r. string_bytes r.position) moves

-- the map's entry for a text
abbrev pub found_in : {S : Type 0} → HashMap (Bor (List ℕ)) Occurrences S → List ℕ → Option Occurrences
found_in counts text = get_by (λ k. bytes_eq text k.now) counts

-- the count and first ply of a text; None if it does not occur
abbrev pub IsCountOf : List (List ℕ) → List ℕ → Option Occurrences → Type 0
IsCountOf texts text None = (k : ℕ) → slice_get texts k ≢ Some text
IsCountOf texts text (Some stood) = (stood.times ≡ times_in texts text) × FirstAt texts stood.first_ply text

-- each text has its count
abbrev pub AreCounted : List (List ℕ) → (List ℕ → Option Occurrences) → Type 0
AreCounted texts found = (text : List ℕ) → IsCountOf texts text (found text)

-- the row has this game, and the count and first ply that were found for its position
abbrev pub HasCounted : ℕ → SeenRow → Option Occurrences → Type 0
HasCounted id row None = ⊥
HasCounted id row (Some stood) = seen_cells row ≡ seen_row id (string_bytes row.position) stood.times stood.first_ply
