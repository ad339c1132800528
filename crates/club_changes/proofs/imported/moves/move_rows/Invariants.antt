use Rattle.std.proofs.Common.{◌≡◌, ◌+◌, ◌*◌, ◌≤◌, [], map, take}
use Rattle.club_rules.specs.Line.{position_after}
use Rattle.club_core.specs.Game.{clocks_of}
use Rattle.club_imports.specs.internal.OneMoment.{clocks_with}
use Rattle.club_rows.specs.internal.Replay.{game_from, terms_given}
use Rattle.store_tables.specs.Cells.{move_cells}
use Rattle.club_changes.specs.internal.AtOnce.{entries_at_once, rows_at_once}
use Rattle.club_changes.proofs.imported.moves.move_rows.Given as goal

abbrev pub invariant-loop-i : goal.invariant-loop-i
invariant-loop-i g l =
    record {
      rows : map move_cells l.rows.items ≡ rows_at_once g.R.Rules.rules (terms_given l.terms) l.game l.moment
          (take l.i l.moves);
      position : l.position ≡ position_after g.R.Rules.rules g.R.Rules.rules.start (take l.i l.moves);
      clocks : clocks_with l.left.first l.left.second l.moment ≡ clocks_of
          (game_from [] l.moment (entries_at_once l.moment (take l.i l.moves))) (terms_given l.terms);
      first : l.left.first ≤ 31536000 + l.i * 2592000;
      second : l.left.second ≤ 31536000 + l.i * 2592000;
    }
