use Rattle.std.proofs.Common.{true, drop}
use Rattle.sqlite.specs.Held.{state}
use Rattle.sqlite.specs.State.{HasCleanDisk}
use Rattle.store_tables.specs.internal.Over.{HasRows}
use Rattle.store_tables.specs.Reading.{Reads}
use Rattle.club_rows.specs.Club.{ClubState, IsClub, tables}
use Rattle.club_answers.proofs.RunningLemmas.{Ahead}
use Rattle.club_answers.proofs.running.all_running.Given as goal

abbrev pub invariant-loop-id : goal.invariant-loop-id
invariant-loop-id g l = record {
  reads : Reads true (state g.S.Store l.fn.conn) (state g.S.Store l.conn);
  running : HasCleanDisk (state g.S.Store l.conn) → (s : ClubState) → IsClub s
      → HasRows (tables s) (state g.S.Store l.fn.conn) → Ahead s l.ids (drop l.id-index l.ids) l.games.items;
}
