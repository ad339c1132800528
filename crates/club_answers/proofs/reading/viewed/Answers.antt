use Rattle.store_tables.proofs.Proved.{clean_before, rows_after, reads_on}
use Rattle.club_rows.specs.Club.{tables}
use Rattle.club_rows.proofs.Proved.{stores-rows}
use Rattle.club_answers.proofs.reading.viewed.Goals as goal

pub returns-clause-reads : goal.returns-clause-reads
returns-clause-reads g c = reads_on c.in_ok-names.ensures.reads c.in_ok-played.ensures.reads

pub returns-clause-viewed : goal.returns-clause-viewed
returns-clause-viewed g c clean s id game is_club at is k =
    let early = clean_before c.played_in.ensures.reads clean in
    let kept = rows_after c.in_ok-names.ensures.reads early (tables s) k in
    let named = c.in_ok-names.ensures.names early s id game is_club at is (stores-rows s _ k) in
    record {
      event = named.event;
      first = named.first;
      second = named.second;
      played = c.in_ok-played.ensures.played clean s id game is_club at is kept;
    }
