use Rattle.std.proofs.Common.{◌≡◌, Ok, Err, true, false, nat_lt, length, refl, arith}
use Rattle.http_head.specs.internal.HeadViews.{outline_view}
use Rattle.http_head.proofs.RequestLemmas.{no_end, none_found, is_head_alone, sees_by, asks_none, asks_some}
use Rattle.http_head.proofs.request.read_request.Goals as goal

pub read_head-requires : goal.read_head-requires
read_head-requires c =
    is_head_alone c.args.bytes.now c.min-limit.ensures (rw c.start.ensures at c.in-Some.ensures.found)

pub returns-then-bytes-gt16384-clause-seen : goal.returns-then-bytes-gt16384-clause-seen
returns-then-bytes-gt16384-clause-seen c =
    let test : nat_lt 16384 (length c.args.bytes.now) ≡ true = grind arith in
    let none = none_found c.args.bytes.now c.min-limit.ensures (rw c.start.ensures at c.in-None.ensures.more) in
    no_end c.args.bytes.now none _ (rw test refl)

pub returns-then-bytes-gt16384-clause-asks_head : goal.returns-then-bytes-gt16384-clause-asks_head
returns-then-bytes-gt16384-clause-asks_head c =
    asks_none c.args.bytes.now c.min-limit.ensures c.min-front.ensures (rw c.start.ensures at c.in-None.ensures.more)
    c.begin_with_head-asks_head.ensures

pub returns-else-bytes-gt16384-clause-seen : goal.returns-else-bytes-gt16384-clause-seen
returns-else-bytes-gt16384-clause-seen c =
    let test : nat_lt 16384 (length c.args.bytes.now) ≡ false = grind arith in
    let none = none_found c.args.bytes.now c.min-limit.ensures (rw c.start.ensures at c.in-None.ensures.more) in
    no_end c.args.bytes.now none _ (rw test refl)

pub returns-else-bytes-gt16384-clause-asks_head : goal.returns-else-bytes-gt16384-clause-asks_head
returns-else-bytes-gt16384-clause-asks_head c =
    asks_none c.args.bytes.now c.min-limit.ensures c.min-front.ensures (rw c.start.ensures at c.in-None.ensures.more)
    c.begin_with_head-asks_head.ensures

pub returns-in-Err-clause-seen : goal.returns-in-Err-clause-seen
returns-in-Err-clause-seen c =
    sees_by c.args.bytes.now (Err c.in-Err.refusal) _ _ c.min-limit.ensures
    (rw c.start.ensures at c.in-Some.ensures.found) c.in-Err.ensures refl refl

pub returns-in-Err-clause-asks_head : goal.returns-in-Err-clause-asks_head
returns-in-Err-clause-asks_head c =
    asks_some c.args.bytes.now c.min-limit.ensures (rw c.start.ensures at c.in-Some.ensures.found)
    c.begin_with_head-asks_head-in-Some.ensures

pub returns-in-Ok-clause-seen : goal.returns-in-Ok-clause-seen
returns-in-Ok-clause-seen c =
    sees_by c.args.bytes.now (Ok (outline_view c.in-Ok.outline)) _ _ c.min-limit.ensures
    (rw c.start.ensures at c.in-Some.ensures.found) c.in-Ok.ensures refl c.with_body.ensures

pub returns-in-Ok-clause-asks_head : goal.returns-in-Ok-clause-asks_head
returns-in-Ok-clause-asks_head c =
    asks_some c.args.bytes.now c.min-limit.ensures (rw c.start.ensures at c.in-Some.ensures.found)
    c.begin_with_head-asks_head-in-Some.ensures
