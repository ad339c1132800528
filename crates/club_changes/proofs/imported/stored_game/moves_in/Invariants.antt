use Rattle.std.proofs.Common.{◌≡◌, map, take}
use Rattle.club_rules.specs.Line.{position_after}
use Rattle.store_tables.specs.Cells.{move_cells}
use Rattle.club_changes.proofs.PlacedRows.{AreAtPlaces}
use Rattle.club_changes.proofs.StoredLemmas.{HaveTexts}
use Rattle.club_changes.proofs.imported.stored_game.moves_in.Given as goal

abbrev pub invariant-loop-i : goal.invariant-loop-i
invariant-loop-i g l =
    record {
      position : l.position ≡ position_after g.R.Rules.rules g.R.Rules.rules.start l.moves.items;
      texts : HaveTexts g.R.Rules.rules g.R.Rules.rules.start l.moves.items (map move_cells (take l.i l.rows));
      placed : AreAtPlaces 1 (map move_cells (take l.i l.rows));
    }
