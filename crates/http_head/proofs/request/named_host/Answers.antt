use Rattle.http_head.proofs.RequestLemmas.{none_found, is_head_alone, no_host, host_by}
use Rattle.http_head.proofs.request.named_host.Goals as goal

pub read_named_host-requires : goal.read_named_host-requires
read_named_host-requires c =
    is_head_alone c.args.bytes.now c.min-most.ensures (rw c.start.ensures at c.in-Some.ensures.found)

pub returns-in-None : goal.returns-in-None
returns-in-None c =
    no_host c.args.bytes.now
    (none_found c.args.bytes.now c.min-most.ensures (rw c.start.ensures at c.in-None.ensures.more))

pub returns-in-Some : goal.returns-in-Some
returns-in-Some c =
    host_by c.args.bytes.now _ c.min-most.ensures (rw c.start.ensures at c.in-Some.ensures.found)
    c.read_named_host.ensures
