use Rattle.store_tables.proofs.Proved.{clean_before, rows_after, reads_on}
use Rattle.std.proofs.Common.{sym, ◌∙◌}
use Rattle.club_rows.proofs.Proved.{stores-rows}
use Rattle.club_rows.specs.Club.{tables}
use Rattle.club_answers.proofs.cross_table.cross_table_lines.Goals as goal

pub returns-in_ok-lines-in-Some-clause-reads : goal.returns-in_ok-lines-in-Some-clause-reads
returns-in_ok-lines-in-Some-clause-reads g c =
    reads_on c.in_ok-event.ensures.reads c.in_ok-lines-in-Some.ensures.reads

pub returns-in_ok-lines-in-Some-clause-rows : goal.returns-in_ok-lines-in-Some-clause-rows
returns-in_ok-lines-in-Some-clause-rows g c clean s is_club version k =
    let looked = clean_before c.event_table.ensures.reads clean in (
      c.in-Some.event,
      sym (c.in_ok-event.ensures.found looked s is_club (stores-rows s _ k))
          ∙ c.in-Some.is,
      c.in_ok-lines-in-Some.ensures.table clean s is_club version
          (rows_after c.in_ok-event.ensures.reads looked (tables s) k),
    )

pub returns-in-None-clause-rows : goal.returns-in-None-clause-rows
returns-in-None-clause-rows g c clean s is_club version k =
    sym (c.in_ok-event.ensures.found clean s is_club (stores-rows s _ k)) ∙ c.in-None.is
