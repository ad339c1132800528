use Rattle.std.proofs.Common.{sym, arith}
use Rattle.squares.specs.declared.sides.Side.TheVariants.{First}
use Rattle.club_core.proofs.Proved.{turns-even, turns-odd}
use Rattle.club_rows.proofs.ends.side_after.Goals as goal

pub returns-then-plies-eq0 : goal.returns-then-plies-eq0
returns-then-plies-eq0 c = sym (turns-even c.args.plies First (omega arith))

pub returns-else-plies-eq0 : goal.returns-else-plies-eq0
returns-else-plies-eq0 c = sym (turns-odd c.args.plies First (omega arith))
