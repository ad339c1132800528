use Rattle.std.specs.Prelude.{take}
use Rattle.club_rows.specs.internal.Rulings.{AreRead}
use Rattle.club_rows.proofs.rulings.read_rulings.Given as goal

abbrev pub invariant-loop-row : goal.invariant-loop-row
invariant-loop-row l = AreRead l.game (take l.row-index l.rows) l.read
