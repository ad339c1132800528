-- The distinct positions of a game with repetition count and first ply.
use Rattle.std.specs.Prelude.{ℕ, suc, pos, Bool, List, [], ◌∷◌, map, take, count_by}
use Rattle.std.specs.Prelude.{if◌then◌else◌}
use Rattle.std.specs.List.{list_any}
use Rattle.std.specs.Str.{bytes_eq}
use Rattle.sqlite_value.specs.declared.value.Value.TheVariants.{Int, Text}
use Rattle.sqlite.specs.Order.{Row}
use Rattle.club_rules.specs.GameRules.{GameRules}
use Rattle.club_rules.specs.Line.{positions}
use Rattle.club_core.specs.Game.{Game, moves_of}

-- ---- occurrences in a line

-- the number of occurrences
abbrev pub times_in : List (List ℕ) → List ℕ → ℕ
times_in texts text = count_by (bytes_eq text) texts

-- whether the text occurs among the first n
abbrev pub stood_before : List (List ℕ) → ℕ → List ℕ → Bool
stood_before texts ply text = list_any (bytes_eq text) (take ply texts)

-- ---- rows

-- the row of a position with its count and first ply, in the game with this id
abbrev pub seen_row : ℕ → List ℕ → ℕ → ℕ → Row
seen_row id text count first_ply = Int (pos id) ∷ Text text ∷ Int (pos count) ∷ Int (pos first_ply) ∷ []

-- the rows of the positions that first occur at this ply or later, with their total counts
abbrev pub rows_from : ℕ → List (List ℕ) → ℕ → List (List ℕ) → List Row
rows_from id texts ply [] = []
rows_from id texts ply (text ∷ rest) =
    if stood_before texts ply text then rows_from id texts (suc ply) rest
    else seen_row id text (times_in texts text) ply ∷ rows_from id texts (suc ply) rest

-- one row for each distinct position
abbrev pub rows_of_texts : ℕ → List (List ℕ) → List Row
rows_of_texts id texts = rows_from id texts 0 texts

module _ {P M E T : Type 0} (rules : GameRules P M E T) where
  -- the notation of the game's positions: the initial one, then one after each ply
  abbrev pub texts_of : Game M → List (List ℕ)
  texts_of game = map rules.write_position (positions rules rules.start (moves_of game))

  -- one row for each distinct position, in the order of first occurrence
  abbrev pub seen_rows : ℕ → Game M → List Row
  seen_rows id game = rows_of_texts id (texts_of game)
