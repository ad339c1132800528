use Rattle.std.proofs.Common.{ap}
use Rattle.club_changes.proofs.Proved.{place_at}
use Rattle.club_answers.proofs.RunningLemmas.{position_is}
use Rattle.club_answers.proofs.running.running_in.Goals as goal

pub returns-clause-running : goal.returns-clause-running
returns-clause-running g c clean s id game is_club at is k =
    let (n, id_is, there) = place_at s.games id game at in
    let told = c.in_ok-entry.ensures s id game (is_club.games n game there) is.row in
    let last = c.in_ok-last.ensures.last clean s id game is_club at is (ap (λ t. t.plies) told) k in
    let position = position_is s id game c.args.stored.row is.row in
    λ i. record { told = told i; last = last i; position = position i }
