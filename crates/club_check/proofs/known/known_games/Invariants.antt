use Rattle.std.proofs.Common.{◌≡◌, map, take}
use Rattle.club_check.specs.internal.KnownGames.{game_seat, row_seat}
use Rattle.club_check.proofs.known.known_games.Given as goal

abbrev pub invariant-rows : goal.invariant-rows
invariant-rows l = map game_seat l.games.items ≡ map row_seat (take l.row-index l.shown)
