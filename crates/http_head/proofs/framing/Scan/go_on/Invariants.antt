use Rattle.std.proofs.Common.{◌≡◌, ◌≤◌, ◌+◌, ◌++◌, ℕ, List, drop}
use Rattle.http_head.specs.Framing.{end_from}
use Rattle.http_head.proofs.framing.Scan.go_on.Given as goal

abbrev pub invariant-loop-byte : goal.invariant-loop-byte
invariant-loop-byte l = record {
  rest : (more : List ℕ) → end_from l.self (drop l.byte-index l.bytes ++ more) ≡ end_from l.fn.self (l.bytes ++ more);
  at : l.self.at ≡ l.fn.self.at + l.byte-index;
  sane : l.self.lines ≤ l.self.at;
}
