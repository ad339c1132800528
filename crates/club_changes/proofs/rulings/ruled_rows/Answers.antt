use Rattle.store_tables.specs.Cells.{game_cells}
use Rattle.club_changes.proofs.ReadRows.{one_pushed}
use Rattle.club_changes.proofs.rulings.ruled_rows.Goals as goal

pub returns : goal.returns
returns g c terms new first second is =
    let games = one_pushed game_cells c.changes_at-changes.result.games.items c.push.new.self.items c.in_ok-record_of.field-0 _
    c.changes_at-changes.ensures.games_are c.in_ok-push.ensures.items (c.in_ok-record_of.ensures first second terms new is) in
    search (games, c.in_ok-changes.ensures, c.in_ok-changes-2.ensures, c.changes_at-changes.ensures)
