use Rattle.std.proofs.Common.{◌≡◌, map, take}
use Rattle.club_rules.specs.Line.{position_after, positions}
use Rattle.club_changes.specs.internal.MoveTexts.{bytes_of}
use Rattle.club_changes.proofs.imported.seen.texts_of.Given as goal

abbrev pub invariant-loop-i : goal.invariant-loop-i
invariant-loop-i g l =
    record {
      texts : bytes_of l.texts.items ≡ map g.R.Rules.rules.write_position
          (positions g.R.Rules.rules g.R.Rules.rules.start (take l.i l.moves));
      position : l.position ≡ position_after g.R.Rules.rules g.R.Rules.rules.start (take l.i l.moves);
    }
