use Rattle.std.proofs.Common.{◌-◌, sym, arith}
use Rattle.squares.specs.declared.sides.Side.TheVariants.{First}
use Rattle.club_core.proofs.Turns.{turns-even, turns-odd}
use Rattle.club_core.proofs.players.side_of_ply.Goals as goal

pub returns-then-ply-eq1 : goal.returns-then-ply-eq1
returns-then-ply-eq1 c = sym (turns-even (c.args.ply - 1) First (omega arith))

pub returns-else-ply-eq1 : goal.returns-else-ply-eq1
returns-else-ply-eq1 c = sym (turns-odd (c.args.ply - 1) First (omega arith))
