use Rattle.std.proofs.Common.{◌≡◌, ◌+◌, length, ap, ◌∙◌, arith, length-append}
use Rattle.store_tables.specs.internal.Cells.{member_cells}
use Rattle.club_core.specs.declared.members.Member as given
use Rattle.club_core.specs.internal.Answer.{member_of}
use Rattle.club_rows.specs.Tables.{member_row}
use Rattle.club_changes.proofs.Proved.{one_more_of, all_read, member_read}
use Rattle.club_reads.proofs.LaterLemmas.{later_of_row}
use Rattle.club_reads.proofs.people.members_of.Goals as goal

pub loop-row-preserved : goal.loop-row-preserved
loop-row-preserved c =
    let m : given.Member = record {
      name = c.in_ok-clone.field-0;
      key = c.in_ok-clone-2.field-0;
      later = c.in_ok-later.later;
    } in
    let grown : length c.push.new.self.items ≡ length c.loop-row.members.items + 1 =
    ap length c.in_ok-push.ensures.items ∙ simp length-append in
    record {
      count = omega (arith, grown);
      values = λ all same keyed.
          one_more_of member_of member_cells member_row c.args.rows.now all same c.loop-row.row-index
          c.row-item.result c.loop-row.members.items c.push.new.self.items m
          (c.loop-row.invariant.values all same keyed) c.loop-row-test.true c.row-item.is c.in_ok-push.ensures.items
          (λ x at is. member_read c.row-item.result m c.in_ok-clone.ensures.cases c.in_ok-clone-2.ensures.cases
          (1 + c.loop-row.row-index) x is
          (later_of_row all c.args.keys.now keyed c.loop-row.row-index x at c.row-item.result is _
          c.in_ok-later.ensures));
    }

pub returns-clause-values : goal.returns-clause-values
returns-clause-values c all same keyed =
    all_read member_of member_cells member_row c.args.rows.now all same c.loop-row.row-index c.loop-row.members.items
    (c.loop-row.invariant.values all same keyed) c.loop-row-test.false c.loop-row.auto.row-index-end
