use Rattle.std.proofs.Common.{◌≡◌, ◌≤◌, length, []}
use Rattle.pdn.proofs.FormLemmas.{goes_on}
use Rattle.pdn.proofs.forms.read_capture.Given as goal

abbrev pub invariant-loop-front : goal.invariant-loop-front
invariant-loop-front l =
    record {
      within : length l.rest ≤ l.total;
      same : goes_on l.from l.total [] l.text ≡ goes_on l.from l.total l.middle.items l.rest;
    }

abbrev pub decreases-loop-front : goal.decreases-loop-front
decreases-loop-front l = length l.rest
