use Rattle.std.proofs.Common.{refl}
use Rattle.store_tables.proofs.Proved.{clean_before, rows_after, reads_on}
use Rattle.club_rows.specs.Club.{tables}
use Rattle.club_rows.proofs.Proved.{stores-rows}
use Rattle.club_answers.proofs.exporting.export_game.Goals as goal

pub returns-in-Ok-clause-reads : goal.returns-in-Ok-clause-reads
returns-in-Ok-clause-reads g c = reads_on c.in_ok-stored.ensures.reads c.in-Ok.ensures.reads

pub returns-in-Ok-clause-written : goal.returns-in-Ok-clause-written
returns-in-Ok-clause-written g c clean s is_club k =
    let looked = clean_before c.export_stored.ensures.reads clean in
    let (game, at, stored) = rw c.in-Some.is at (c.in_ok-stored.ensures.found looked s is_club (stores-rows s _ k)) in
    c.in-Ok.ensures.written clean s c.args.game game is_club at stored
    (rows_after c.in_ok-stored.ensures.reads looked (tables s) k)

pub returns-in-Ok-clause-begun : goal.returns-in-Ok-clause-begun
returns-in-Ok-clause-begun g c clean s is_club k =
    let looked = clean_before c.export_stored.ensures.reads clean in
    let (game, at, stored) = rw c.in-Some.is at (c.in_ok-stored.ensures.found looked s is_club (stores-rows s _ k)) in
    c.export_stored.ensures.begun clean s c.args.game game is_club at stored
    (rows_after c.in_ok-stored.ensures.reads looked (tables s) k)

pub returns-in-Some-clause-reads : goal.returns-in-Some-clause-reads
returns-in-Some-clause-reads g c = reads_on c.in_ok-stored.ensures.reads c.in-Err.ensures.reads

pub returns-in-Some-clause-begun : goal.returns-in-Some-clause-begun
returns-in-Some-clause-begun g c clean s is_club k =
    let looked = clean_before c.export_stored.ensures.reads clean in
    let (game, at, stored) = rw c.in-Some.is at (c.in_ok-stored.ensures.found looked s is_club (stores-rows s _ k)) in
    c.export_stored.ensures.begun clean s c.args.game game is_club at stored
    (rows_after c.in_ok-stored.ensures.reads looked (tables s) k)

pub returns-clause-written : goal.returns-clause-written
returns-clause-written g c clean s is_club k =
    (rw c.in-None.is at (c.in_ok-stored.ensures.found clean s is_club (stores-rows s _ k)), refl)
