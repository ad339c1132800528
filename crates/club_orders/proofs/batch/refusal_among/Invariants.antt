use Rattle.std.proofs.Common.{◌≡◌, drop, true, false}
use Rattle.sqlite.specs.State.{HasCleanDisk}
use Rattle.sqlite.specs.Held.{state}
use Rattle.store_tables.specs.Reading.{Reads}
use Rattle.club_rows.specs.Club.{ClubState}
use Rattle.store.specs.Clubs.{Asks}
use Rattle.club_orders.proofs.GivingLemmas.{AskedOn}
use Rattle.club_orders.proofs.batch.refusal_among.Given as goal

abbrev pub invariant-loop-question : goal.invariant-loop-question
invariant-loop-question g l =
    record {
      ready : l.club.needs_reopening ≡ false;
      schema : l.club.has_arbiter ≡ l.fn.club.has_arbiter;
      reads : Reads true (state g.S.Store l.fn.club.connection) (state g.S.Store l.club.connection);
      asked : HasCleanDisk (state g.S.Store l.club.connection) → (s : ClubState)
          → Asks l.fn.club.has_arbiter (state g.S.Store l.fn.club.connection) s
          → AskedOn s l.moment l.questions (drop l.question-index l.questions);
    }
