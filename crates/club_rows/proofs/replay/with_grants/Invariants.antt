use Rattle.std.specs.Prelude.{◌≡◌, ◌+◌, drop}
use Rattle.club_rows.specs.internal.Replay.{grants_to}
use Rattle.club_rows.specs.internal.Rulings.{rulings_given}
use Rattle.club_rows.proofs.replay.with_grants.Given as goal

abbrev pub invariant-loop-ruling : goal.invariant-loop-ruling
invariant-loop-ruling l =
    l.sum + grants_to l.side l.plies (rulings_given (drop l.ruling-index l.rulings))
    ≡ l.fn.left + grants_to l.side l.plies (rulings_given l.rulings)
