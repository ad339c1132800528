use Rattle.std.proofs.Common.{◌≡◌, ◌++◌, map, drop}
use Rattle.club_rows.specs.Seen.{rows_from, rows_of_texts}
use Rattle.store_tables.specs.Cells.{seen_cells}
use Rattle.club_changes.specs.internal.MoveTexts.{bytes_of}
use Rattle.club_changes.proofs.imported.seen.rows_of_texts.Given as goal

abbrev pub invariant-loop-ply : goal.invariant-loop-ply
invariant-loop-ply l =
    map seen_cells l.rows.items ++ rows_from l.game (bytes_of l.texts) l.ply (drop l.ply (bytes_of l.texts))
    ≡ rows_of_texts l.game (bytes_of l.texts)
