use Rattle.std.proofs.Common.{sym, arith}
use Rattle.squares.specs.declared.sides.Side.TheVariants.{First}
use Rattle.club_core.proofs.Proved.{turns-even, turns-odd}
use Rattle.club_changes.proofs.swept.late.side_after.Goals as goal

pub returns-then-plies-eq0 : goal.returns-then-plies-eq0
returns-then-plies-eq0 c = let even = c.if-plies-eq0.true in sym (turns-even c.args.plies First (omega (arith, even)))

pub returns-else-plies-eq0 : goal.returns-else-plies-eq0
returns-else-plies-eq0 c = let odd = c.if-plies-eq0.false in sym (turns-odd c.args.plies First (omega (arith, odd)))
