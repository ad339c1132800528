-- The entries of games in lists. No promise of the program rests on these definitions.
use Rattle.std.specs.Prelude.{ℕ, List, Option, Some, None}
use Rattle.std.specs.Option.{option_map}
use Rattle.squares.specs.Sides.{score_text}
use Rattle.squares.specs.declared.sides.Score.{Score}
use Rattle.club_lists.specs.GameSummary.{Over}

-- the end of a game; a void game has no score
abbrev pub over_with : Option (List ℕ) → Option Score → Option Over
over_with None score = None
over_with (Some end) score = Some (record { end = end; result = option_map score_text score })
