-- The Berger table of a round robin. Players, rounds and boards are numbered from 1. An odd number of players gets one
-- more seat, the bye, against which no game is played.
use Rattle.std.specs.Prelude.{ℕ, ◌+◌, ◌-◌, ◌*◌, ◌%◌, Bool, cond, not, nat_eq, nat_le, List, [], ◌∷◌, map, suc}
use Rattle.std.specs.List.{filter, flat_map, range_with_len}
use Rattle.pairings.specs.declared.table.BoardPairing.{BoardPairing}

-- Two players.
pub record Pair : Type 0 where
  pub lower : ℕ
  pub higher : ℕ

-- The number of seats: the number of players, plus the bye if it is odd.
abbrev pub seats : ℕ → ℕ
seats players = cond (nat_eq (players % 2) 0) players (players + 1)

-- The number of rounds of a single round robin.
abbrev pub rounds_once : ℕ → ℕ
rounds_once players = seats players - 1

-- The number of rounds of a single or double round robin.
abbrev pub rounds_of : ℕ → Bool → ℕ
rounds_of players is_double = cond is_double (2 * rounds_once players) (rounds_once players)

-- The sum of two player numbers, in which the last seat counts as the other player's number.
abbrev pub sum_of : ℕ → Pair → ℕ
sum_of players pair = cond (nat_eq pair.higher (seats players)) (2 * pair.lower) (pair.lower + pair.higher)

-- Two players meet in a round if their sum and the round plus one are equal modulo the number of rounds.
abbrev pub meet : ℕ → ℕ → Pair → Bool
meet players round pair =
    nat_eq (sum_of players pair % rounds_once players) ((round + 1) % rounds_once players)

-- Whether the lower player plays First in the first game of two players. It does if the sum of their numbers is odd,
-- or, against the last seat, if it is in the first half.
abbrev pub begins : ℕ → Pair → Bool
begins players pair =
    cond (nat_eq pair.higher (seats players)) (nat_le (2 * pair.lower) (seats players))
    (nat_eq ((pair.lower + pair.higher) % 2) 1)

-- In the second half of a double round robin the sides are reversed.
abbrev pub is_lower_first : ℕ → ℕ → Pair → Bool
is_lower_first players round pair =
    cond (nat_le round (rounds_once players)) (begins players pair) (not (begins players pair))

-- The game of a pair in a round on a board, in which `first` is the player who plays First.
abbrev pub game_of : ℕ → ℕ → ℕ → Pair → BoardPairing
game_of players round board pair =
    cond (is_lower_first players round pair)
    (record { round = round; board = board; first = pair.lower; second = pair.higher })
    (record { round = round; board = board; first = pair.higher; second = pair.lower })

-- The games of the pairs, on boards from `board` on.
abbrev pub numbered : ℕ → ℕ → ℕ → List Pair → List BoardPairing
numbered players round board [] = []
numbered players round board (pair ∷ rest) =
    game_of players round board pair ∷ numbered players round (suc board) rest

-- A player and another one with a higher number.
abbrev pub pair_of : ℕ → ℕ → Pair
pair_of lower higher = record { lower = lower; higher = higher }

-- A player paired with `count` players from `higher` on.
abbrev pub pairs_from : ℕ → ℕ → ℕ → List Pair
pairs_from lower higher count = map (pair_of lower) (range_with_len higher count)

-- A player paired with each higher player.
abbrev pub row : ℕ → ℕ → List Pair
row players lower = pairs_from lower (suc lower) (players - lower)

-- All pairs of players, by the lower and then the higher player.
abbrev pub pairs : ℕ → List Pair
pairs players = flat_map (row players) (range_with_len 1 players)

-- The games of a round: the pairs that meet in it, in order, on boards from 1 on.
unfoldable pub games : ℕ → ℕ → List BoardPairing
games players round = numbered players round 1 (filter (meet players round) (pairs players))

-- The games of all rounds, in the order of the rounds.
unfoldable pub all_games : ℕ → Bool → List BoardPairing
all_games players is_double = flat_map (games players) (range_with_len 1 (rounds_of players is_double))
