use Rattle.std.proofs.Common.{inl, inr, rules}
use Rattle.sqlite.specs.Held.{state}
use Rattle.club_check.proofs.ClubLemmas.{has_number}
use Rattle.club_check.proofs.read.read_version.Goals as goal

pub returns-in-None-clause-reason_is_right : goal.returns-in-None-clause-reason_is_right
returns-in-None-clause-reason_is_right g c clean has =
    let found = c.in-Ok-Some.found in
    let it = (rw c.in-Ok-Some.field-0-is at (c.in-Ok-Some.ensures.some clean)) has in
    inr
    (inr (
      found.schema,
      search rules,
      inl (search rules),
      has_number found (state g.S.Store c.args.conn.now) (state g.S.Store c.read_meta.new.conn) it.0 it.1,
    ))

pub returns-in-Ok-None-clause-found : goal.returns-in-Ok-None-clause-found
returns-in-Ok-None-clause-found g c clean has assumed =
    inr (
      assumed,
      c.no_meta.ensures,
      c.in-Ok-None.ensures.none clean c.in-Ok-None.field-0-is,
      c.in-Ok-None.ensures.unshown clean c.in-Ok-None.field-0-is has,
    )
