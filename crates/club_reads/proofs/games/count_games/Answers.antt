use Rattle.std.proofs.Common.{refl, arith}
use Rattle.club_rows.specs.Club.{tables}
use Rattle.club_changes.specs.internal.Steps.{game_in}
use Rattle.club_changes.proofs.Proved.{numbered_length}
use Rattle.club_reads.proofs.BeginLemmas.{games_begin}
use Rattle.club_reads.proofs.games.count_games.Goals as goal

pub returns-in-Ok-clause-count : goal.returns-in-Ok-clause-count
returns-in-Ok-clause-count g c clean s k =
    let count = c.in_ok-count.ensures.count clean refl (tables s) k (games_begin s) in
    omega (arith, c.in-Ok.ensures, count, numbered_length (game_in s) 1 s.games)
