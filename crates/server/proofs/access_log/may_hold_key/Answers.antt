use Rattle.std.proofs.Common.{◌≡◌, ◌∙◌, drop, nat_lt, true, arith}
use Rattle.server.proofs.LogLemmas.{is_long}
use Rattle.server.proofs.access_log.may_hold_key.Goals as goal

pub returns-then-run-gt7 : goal.returns-then-run-gt7
returns-then-run-gt7 c =
    let long : nat_lt 7 c.loop-byte.run ≡ true = grind arith in
    is_long c.loop-byte.run (drop c.loop-byte.byte-index c.args.bytes.now) long ∙ c.loop-byte.invariant.same
