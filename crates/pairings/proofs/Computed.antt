-- The tables of all sizes from 2 to 32 players, computed.
use Rattle.std.proofs.Common.{◌≡◌, ◌+◌, ℕ, List, map, filter, Bool, true, false, refl, cond, length, ◌&&◌, ◌||◌, nat_eq}
use Rattle.std.specs.Prelude.{nat_le}
use Rattle.std.specs.List.{range_with_len, list_all, count_by}
use Rattle.pairings.specs.declared.table.BoardPairing.{BoardPairing}
use Rattle.pairings.specs.Table.{games, all_games, rounds_of}
use Rattle.pairings.specs.internal.Laws.{games_with}

-- whom a player had First against
abbrev pub against : ℕ → List BoardPairing → List ℕ
against player list = map (λ game. game.second) (filter (λ game. nat_eq game.first player) list)

-- who had First against a player
abbrev pub before : ℕ → List BoardPairing → List ℕ
before player list = map (λ game. game.first) (filter (λ game. nat_eq game.second player) list)

abbrev pub times : ℕ → List ℕ → ℕ
times x xs = count_by (λ y. nat_eq y x) xs

-- how often two players meet: in all, and in a double round robin with one of them as First
abbrev pub meetings : Bool → List ℕ → List ℕ → ℕ → ℕ
meetings is_double firsts seconds other =
    cond is_double (times other firsts) (times other firsts + times other seconds)

-- games as First and as Second: as many, or up to one more
abbrev pub is_balanced : Bool → ℕ → ℕ → Bool
is_balanced true firsts seconds = nat_eq firsts seconds
is_balanced false firsts seconds = nat_le firsts (seconds + 1) && nat_le seconds (firsts + 1)

-- what is asked of a player, by those whom they had First against and those who had First against them
unfoldable pub is_right_for : ℕ → Bool → ℕ → List ℕ → List ℕ → Bool
is_right_for players is_double one firsts seconds =
    list_all (λ other. nat_eq one other || nat_eq (meetings is_double firsts seconds other) 1)
    (range_with_len 1 players)
    && is_balanced is_double (length firsts) (length seconds)

unfoldable pub is_right : Bool → ℕ → List BoardPairing → Bool
is_right is_double players list =
    list_all (λ one. is_right_for players is_double one (against one list) (before one list))
    (range_with_len 1 players)

pub all_right : (is_double : Bool) →
    list_all (λ players. is_right is_double players (all_games players is_double)) (range_with_len 2 31) ≡ true
unfolding all_games games is_right_for is_right
all_right false = refl
all_right true = refl

unfoldable pub play_once : ℕ → List BoardPairing → Bool
play_once players list = list_all (λ one. nat_le (games_with one list) 1) (range_with_len 1 players)

pub all_once :
    list_all (λ players. list_all (λ round. play_once players (games players round))
    (range_with_len 1 (rounds_of players true))) (range_with_len 2 31) ≡ true
unfolding games play_once
all_once = refl
