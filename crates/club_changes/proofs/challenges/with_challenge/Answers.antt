use Rattle.store_tables.specs.internal.Cells.{challenge_cells}
use Rattle.club_changes.proofs.ReadRows.{one_pushed}
use Rattle.club_changes.proofs.challenges.with_challenge.Goals as goal

pub returns : goal.returns
returns c moment games seen puts =
    let challenges = one_pushed challenge_cells c.args.changes.challenges.items c.push.new.self.items
    c.challenge_row.result _ puts.challenges_are c.in_ok-push.ensures.items c.challenge_row.ensures in
    search (challenges, puts)
