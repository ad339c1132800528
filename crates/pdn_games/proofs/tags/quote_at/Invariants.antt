use Rattle.std.proofs.Common.{◌≡◌, drop, false}
use Rattle.pdn_games.specs.Tags.{quote_at}
use Rattle.pdn_games.proofs.tags.quote_at.Given as goal

abbrev pub invariant-loop-i : goal.invariant-loop-i
invariant-loop-i l = quote_at 0 false l.text ≡ quote_at l.i l.escaped (drop l.i l.text)
