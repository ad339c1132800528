use Rattle.std.proofs.Common.{◌≡◌, None, true, take}
use Rattle.sqlite.specs.Held.{state}
use Rattle.sqlite.specs.State.{HasCleanDisk}
use Rattle.store_tables.specs.Reading.{Reads}
use Rattle.club_rows.specs.Club.{ClubState, IsClub, StoresClub}
use Rattle.club_answers.specs.internal.Writing.{HasRecords}
use Rattle.club_answers.proofs.RecordLemmas.{opens}
use Rattle.club_answers.proofs.records.write_records.Given as goal

abbrev pub invariant-loop-id : goal.invariant-loop-id
invariant-loop-id g l = record {
  first : l.is_first ≡ opens true (take l.id-index l.ids);
  reads : Reads true (state g.S.Store l.fn.conn) (state g.S.Store l.conn);
  written : HasCleanDisk (state g.S.Store l.conn) → (s : ClubState) → IsClub s
      → StoresClub s (state g.S.Store l.fn.conn)
      → HasRecords s l.kind (take l.id-index l.ids) None (g.W.Write.contents l.fn.writer) (g.W.Write.contents l.writer);
}
