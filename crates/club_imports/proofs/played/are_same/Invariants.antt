use Rattle.std.proofs.Common.{◌≡◌, drop}
use Rattle.club_core.specs.Imports.{same_moves}
use Rattle.club_imports.proofs.played.are_same.Given as goal

abbrev pub invariant-loop-i : goal.invariant-loop-i
invariant-loop-i g l = same_moves g.R.Rules.rules (drop l.i l.moves) (drop l.i l.others)
    ≡ same_moves g.R.Rules.rules l.moves l.others
