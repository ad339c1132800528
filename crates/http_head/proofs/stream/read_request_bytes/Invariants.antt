use Rattle.http_head.specs.internal.Intake.{HasTaken, IsIntake}
use Rattle.http_head.proofs.stream.read_request_bytes.Given as goal

abbrev pub invariant-loop : goal.invariant-loop
invariant-loop g l = record {
  taken : HasTaken l.fn.heard.items l.bytes.items (g.R.Read.remaining l.fn.reader) (g.R.Read.remaining l.reader);
  looked : IsIntake l.intake l.bytes.items;
}
