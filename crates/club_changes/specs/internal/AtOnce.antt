-- The rows of moves that all have the same timestamp. No promise of the program rests on these definitions.
use Rattle.std.specs.Prelude.{ℕ, List, [], map}
use Rattle.sqlite.specs.Order.{Row}
use Rattle.club_rules.specs.GameRules.{GameRules}
use Rattle.club_core.specs.Events.{Terms}
use Rattle.club_core.specs.Game.{Entry}
use Rattle.club_rows.specs.internal.Replay.{game_from}
use Rattle.club_rows.specs.Tables.{move_rows}

-- the entries of the moves, with this timestamp
abbrev pub entries_at_once : {M : Type 0} → ℕ → List M → List (Entry M)
entries_at_once moment ms = map (λ m. record { made = m; moment = moment }) ms

-- the rows of a game that starts at `moment` and whose moves all have this timestamp
abbrev pub rows_at_once : {P M E T : Type 0} → GameRules P M E T → Terms → (id moment : ℕ) → List M → List Row
rows_at_once rules terms id moment ms = move_rows rules terms id (game_from [] moment (entries_at_once moment ms))
