use Rattle.std.proofs.Common.{◌≡◌, rules}
use Rattle.sqlite.specs.Held.{state}
use Rattle.store_tables.specs.Cells.{IsSeen}
use Rattle.store_tables.specs.Tables.{seen}
use Rattle.store_tables.specs.declared.names.Table.TheVariants.{Seen}
use Rattle.club_check.specs.internal.Faults.{told}
use Rattle.club_check.proofs.StoredLemmas.{stands}
use Rattle.club_check.proofs.FoundGames.{seen_untyped, told_typed}
use Rattle.club_check.proofs.games.read_seen.Goals as goal

pub returns-in-Ok-clause-rows : goal.returns-in-Ok-clause-rows
returns-in-Ok-clause-rows g c clean has = c.in-Ok.ensures.rows clean (stands Seen tt has)

pub returns-in-WrongType-clause-untyped : goal.returns-in-WrongType-clause-untyped
returns-in-WrongType-clause-untyped g c clean none has = (
  c.in-Err.ensures.same clean c.in-WrongType.is (stands Seen tt has),
  seen_untyped (state g.S.Store c.args.conn.now) c.in-Err.fault c.in-WrongType.is
      (c.in-Err.ensures.reason_is_right clean (stands Seen tt has)),
)

pub returns-in_default-clause-reason_is_right : goal.returns-in_default-clause-reason_is_right
returns-in_default-clause-reason_is_right g c clean has =
    let is : c.fault_in.result ≡ told Seen c.in-Err.fault = search rules in
    told_typed Seen (seen 12) IsSeen (state g.S.Store c.args.conn.now) c.in-Err.fault c.fault_in.result is c.in_default.not-WrongType
    (c.in-Err.ensures.reason_is_right clean (stands Seen tt has))
