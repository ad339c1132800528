use Rattle.std.proofs.Common.{arith, ◌∙◌}
use Rattle.store_tables.specs.internal.Contents.{opening}
use Rattle.store_tables.proofs.Proved.{room_takes}
use Rattle.store_sql.proofs.creation.fill_inside.Goals as goal

pub returns-clause-filled : goal.returns-clause-filled
returns-clause-filled g c clean inside fits =
    let one = c.in_ok-create_inside.ensures.filled (omega arith) inside in
    let two = c.in_ok-put_changes.ensures.put clean one.inside fits in
    record {
      holds = λ schema them is room k.
          two.holds them is (room_takes schema them room _ k) (opening c.args.version)
          (one.holds schema them is room k);
      committed = two.committed ∙ one.committed;
      inside = two.inside;
    }
