use Rattle.std.proofs.Common.{◌≡◌, take}
use Rattle.club_rules.specs.Line.{position_after, line_track}
use Rattle.club_imports.proofs.rows.line_state_after.Given as goal

abbrev pub invariant-loop-i : goal.invariant-loop-i
invariant-loop-i g l =
    record {
      position : l.position ≡ position_after g.R.Rules.rules g.R.Rules.rules.start (take l.i l.moves);
      track : l.track ≡ line_track g.R.Rules.rules g.R.Rules.rules.start (take l.i l.moves);
    }
