-- Counts over the games of a table. No promise of the program rests on these definitions.
use Rattle.std.specs.Prelude.{ℕ, ◌&&◌, ◌||◌, nat_eq, List}
use Rattle.std.specs.List.{count_by}
use Rattle.pairings.specs.declared.table.BoardPairing.{BoardPairing}

-- How often one player plays First against another.
abbrev pub times_first : ℕ → ℕ → List BoardPairing → ℕ
times_first one other games = count_by (λ game. nat_eq game.first one && nat_eq game.second other) games

-- The number of a player's games: as First, as Second, and in all.
abbrev pub games_as_first : ℕ → List BoardPairing → ℕ
games_as_first player games = count_by (λ game. nat_eq game.first player) games

abbrev pub games_as_second : ℕ → List BoardPairing → ℕ
games_as_second player games = count_by (λ game. nat_eq game.second player) games

abbrev pub games_with : ℕ → List BoardPairing → ℕ
games_with player games = count_by (λ game. nat_eq game.first player || nat_eq game.second player) games
