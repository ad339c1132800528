use Rattle.std.proofs.Common.{◌≡◌, length, IsTrue, true}
use Rattle.sqlite.specs.State.{HasCleanDisk, IsUnchanged}
use Rattle.sqlite.specs.Held.{state}
use Rattle.store_tables.specs.Placed.{club_trees}
use Rattle.store_tables.specs.Reading.{Reads}
use Rattle.store_tables.specs.declared.names.Table.{Table}
use Rattle.store_tables.specs.declared.names.Version.{Version}
use Rattle.club_audit.specs.internal.Audit.{HasPeople}
use Rattle.club_rows.specs.Club.{ClubState}
use Rattle.club_check.specs.internal.RightTables.{IsLater}
use Rattle.club_check.specs.internal.Examined.{AreLeftAfter, IsAfter}
use Rattle.club_check.specs.internal.RightMoves.{HasRulingCount, moves_in, seen_in}
use Rattle.club_check.proofs.ExaminedLemmas.{IsKept}
use Rattle.club_check.proofs.games.examine_games.Given as goal

abbrev pub invariant-loop-place : goal.invariant-loop-place
invariant-loop-place g l = record {
  items : l.game-items ≡ l.rows.games.items;
  reads : Reads true (state g.S.Store l.fn.conn) (state g.S.Store l.conn);
  kept : IsKept l.fn.known l.wrong;
  later : (s : ClubState) → HasPeople s l.rows → IsLater l.fn.known → IsLater l.wrong;
  free : (u : Table) → IsAfter u l.wrong → IsAfter u l.fn.known;
  left : HasCleanDisk (state g.S.Store l.conn) → (version : Version)
      → HasRulingCount version l.fn.all.rulings (state g.S.Store l.fn.conn).now
      → IsTrue (state g.S.Store l.fn.conn).is_open
      → l.fn.all.moves ≡ length (moves_in (club_trees (state g.S.Store l.fn.conn).now))
      → l.fn.all.seen ≡ length (seen_in (club_trees (state g.S.Store l.fn.conn).now))
      → IsUnchanged (state g.S.Store l.fn.conn) (state g.S.Store l.conn)
      × AreLeftAfter l.rows l.fn.last l.place l.moves l.rulings l.seen l.wrong version (state g.S.Store l.fn.conn).now;
}
