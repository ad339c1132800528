use Rattle.std.proofs.Common.{◌≤◌, length}
use Rattle.pdn.specs.FenItems.{ItemsReading, ReadsItems}
use Rattle.pdn.proofs.fen_form.read_items.Given as goal

abbrev pub invariant-loop-front : goal.invariant-loop-front
invariant-loop-front l =
    record {
      within : length l.left ≤ length l.text;
      onward : (reading : ItemsReading) → ReadsItems l.total l.side l.items.items l.left reading
          → ReadsItems l.total l.side l.initial.items.items l.text reading;
    }

abbrev pub decreases-loop-front : goal.decreases-loop-front
decreases-loop-front l = length l.left
