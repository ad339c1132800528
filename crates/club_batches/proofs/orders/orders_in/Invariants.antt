use Rattle.std.proofs.Common.{◌≡◌, ◌≤◌, length}
use Rattle.std.specs.Str.Lines.{lines}
use Rattle.club_batches.specs.internal.Orders.{most_orders}
use Rattle.club_batches.proofs.OrderLemmas.{AreRead}
use Rattle.club_batches.proofs.orders.orders_in.Given as goal

abbrev pub invariant-loop-line : goal.invariant-loop-line
invariant-loop-line l =
    record {
      count : l.number ≡ length l.yielded;
      few : length l.orders.items ≤ most_orders;
      read : AreRead (lines l.text) (length l.yielded) l.orders.items;
    }
