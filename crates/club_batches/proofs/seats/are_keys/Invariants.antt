use Rattle.std.proofs.Common.{◌≡◌, drop}
use Rattle.club_batches.specs.Seats.{are_keys}
use Rattle.club_batches.proofs.seats.are_keys.Given as goal

abbrev pub invariant-loop-game : goal.invariant-loop-game
invariant-loop-game l = are_keys l.prefix (drop l.game-index l.games) ≡ are_keys l.prefix l.games
