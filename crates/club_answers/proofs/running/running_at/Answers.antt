use Rattle.store_tables.proofs.Proved.{clean_before, rows_after, reads_on}
use Rattle.club_rows.specs.Club.{tables}
use Rattle.club_answers.proofs.running.running_at.Goals as goal

pub returns-in_ok-running-in-Some-clause-reads : goal.returns-in_ok-running-in-Some-clause-reads
returns-in_ok-running-in-Some-clause-reads g c =
    reads_on c.in_ok-stored.ensures.reads c.in_ok-running-in-Some.ensures.reads

pub returns-in_ok-running-in-Some-clause-running : goal.returns-in_ok-running-in-Some-clause-running
returns-in_ok-running-in-Some-clause-running g c clean s is_club k =
    let looked = clean_before c.running_in.ensures.reads clean in
    let kept = rows_after c.in_ok-stored.ensures.reads looked (tables s) k in
    let (game, at, stored) = rw (c.in-Some.is, c.from.ensures)
    at (c.in_ok-stored.ensures.found looked s is_club k) in
    (game, at, c.in_ok-running-in-Some.ensures.running clean s c.args.id game is_club at stored kept)
