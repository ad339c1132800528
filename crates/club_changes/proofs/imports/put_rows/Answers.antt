use Rattle.std.proofs.Common.{refl}
use Rattle.store_tables.specs.Cells.{game_cells}
use Rattle.club_changes.proofs.ReadRows.{one_pushed}
use Rattle.club_changes.proofs.imports.put_rows.Goals as goal

pub returns : goal.returns
returns c =
    let games = one_pushed game_cells c.changes_at-changes.result.games.items c.push.new.self.items c.args.rows.game _
    c.changes_at-changes.ensures.games_are c.in_ok-push.ensures.items refl in
    search (games, c.in_ok-changes.ensures, c.changes_at-changes.ensures)
