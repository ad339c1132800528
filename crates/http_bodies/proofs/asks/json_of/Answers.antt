use Rattle.std.proofs.Common.{sym, rules}
use Rattle.http_bodies.proofs.BodyLemmas.{none_read, some_read}
use Rattle.http_bodies.proofs.asks.json_of.Goals as goal

pub returns-in-Ok : goal.returns-in-Ok
returns-in-Ok c = sym (some_read c.args.body.now _ c.in-Ok.ensures.ok.0 c.in-Ok.ensures.ok.1)

pub returns-else-is_memory : goal.returns-else-is_memory
returns-else-is_memory c = sym (none_read c.args.body.now (c.in-Err.ensures.err (search rules)))
