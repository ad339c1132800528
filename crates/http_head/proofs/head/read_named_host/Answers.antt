use Rattle.std.proofs.Common.{arith}
use Rattle.http_head.proofs.HeadReading.{names_none, names_host, ends_early, overflows, whole}
use Rattle.http_head.proofs.head.read_named_host.Goals as goal

pub returns-then-found-head : goal.returns-then-found-head
returns-then-found-head c =
    let at = rw c.in-Ok-Complete.field-0-is at c.in-Ok-Complete.ensures.complete in
    names_host c.args.lines c.args.head.now at.0 _ (omega arith)
    (whole c.args.head.now _ c.in-Ok-Complete.found at.0 at.1 c.if-found-head.true)
    (rw (at.1.path, at.1.version, at.1.fields) at c.named_host_from.ensures)

pub returns-else-found-head : goal.returns-else-found-head
returns-else-found-head c =
    let at = rw c.in-Ok-Complete.field-0-is at c.in-Ok-Complete.ensures.complete in
    let within = rw c.in-Ok-Complete.field-0-is at c.in-Ok-Complete.ensures.within in
    names_none c.args.lines c.args.head.now (omega arith)
    (ends_early c.args.head.now _ c.in-Ok-Complete.found at.0 at.1 within.section.len_fits c.if-found-head.false)

pub returns-in-Err : goal.returns-in-Err
returns-in-Err c =
    names_none c.args.lines c.args.head.now (omega arith)
    (overflows c.args.head.now c.args.lines (omega arith) c.requires c.in-Err.ensures.no_room)
