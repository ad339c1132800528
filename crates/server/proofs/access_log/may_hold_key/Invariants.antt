use Rattle.std.proofs.Common.{◌≡◌, ◌≤◌, drop}
use Rattle.server.specs.internal.LogLine.{has_run}
use Rattle.server.proofs.access_log.may_hold_key.Given as goal

abbrev pub invariant-loop-byte : goal.invariant-loop-byte
invariant-loop-byte l = record {
  same : has_run l.run (drop l.byte-index l.bytes) ≡ has_run 0 l.bytes;
  few : l.run ≤ 8;
}
