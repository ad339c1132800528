use Rattle.store_tables.proofs.Proved.{clean_before, rows_after, reads_on}
use Rattle.std.proofs.Common.{Some, ap}
use Rattle.club_rows.specs.Club.{tables}
use Rattle.club_changes.proofs.Proved.{event_stands, players_stand, pairing_same}
use Rattle.club_answers.proofs.exported.names_of.Goals as goal

pub returns-clause-reads : goal.returns-clause-reads
returns-clause-reads g c =
    reads_on c.in_ok-event.ensures.reads (reads_on c.in_ok-first.ensures.reads c.in_ok-second.ensures.reads)

pub returns-clause-names : goal.returns-clause-names
returns-clause-names g c clean s id game is_club at is k =
    let two = clean_before c.name_of-2.ensures.reads clean in
    let one = clean_before c.name_of.ensures.reads two in
    let k1 = rows_after c.in_ok-event.ensures.reads one (tables s) k in
    let k2 = rows_after c.in_ok-first.ensures.reads two (tables s) k1 in
    let ids = c.in_ok-ids.ids in
    let same = pairing_same ids id game (c.in_ok-ids.ensures s id game is.row) in
    let (event, event_at) = event_stands s is_club id game at in
    let (first, second, first_at, second_at) = players_stand s is_club id game at in
    record {
      event = rw event_at
          (ap (λ e. Some e.name) (c.in_ok-event.ensures.found one s is_club k event (rw same event_at)));
      first = rw first_at (ap Some (c.in_ok-first.ensures.found two s k1 first (rw same first_at)));
      second = rw second_at (ap Some (c.in_ok-second.ensures.found clean s k2 second (rw same second_at)));
    }
