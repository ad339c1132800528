use Rattle.std.proofs.Common.{◌≡◌, false, inl, inr, sym, ◌∙◌}
use Rattle.sqlite.specs.Held.{state}
use Rattle.schema_match.specs.Shapes.{is_of_club}
use Rattle.schema_match.specs.internal.TableVersions.{has_version}
use Rattle.store_tables.specs.declared.names.Version.TheVariants.{V3}
use Rattle.club_check.specs.internal.ReasonIsRight.{IsAssumed}
use Rattle.club_check.proofs.ClubLemmas.{shape_named}
use Rattle.club_check.proofs.ToldLemmas.{assumed_is, told_stand}
use Rattle.club_check.proofs.read.read_shaped.Goals as goal

pub returns-then-fits-clause-found : goal.returns-then-fits-clause-found
returns-then-fits-clause-found g c clean has =
    let s0 = state g.S.Store c.args.conn.now in
    let told = c.in-Ok-read_head.told in
    let assumed : IsAssumed c.assumed.result s0 = assumed_is (has_version c.in-Ok.shapes V3) c.assumed.result s0
    c.assumed.ensures (sym (c.in-Ok.ensures V3)) in
    let (stand, read) = c.in-Ok-read_head.ensures.found clean has.club assumed in
    let shape = sym (c.in-Ok.ensures told.version) ∙ sym c.has-fits.ensures ∙ c.if-fits.true in
    (told_stand told.version told.meta s0 _ has read stand shape, read)

pub returns-in-Err-read_head-clause-reason_is_right : goal.returns-in-Err-read_head-clause-reason_is_right
returns-in-Err-read_head-clause-reason_is_right g c clean has =
    c.in-Err-read_head.ensures.reason_is_right clean has
    (assumed_is (has_version c.in-Ok.shapes V3) c.assumed.result (state g.S.Store c.args.conn.now) c.assumed.ensures
    (sym (c.in-Ok.ensures V3)))

pub returns-in-Err-read_head-clause-undamaged : goal.returns-in-Err-read_head-clause-undamaged
returns-in-Err-read_head-clause-undamaged g c clean has =
    c.in-Err-read_head.ensures.undamaged clean has.club
    (assumed_is (has_version c.in-Ok.shapes V3) c.assumed.result (state g.S.Store c.args.conn.now) c.assumed.ensures
    (sym (c.in-Ok.ensures V3)))

pub returns-else-fits-clause-reason_is_right : goal.returns-else-fits-clause-reason_is_right
returns-else-fits-clause-reason_is_right g c clean has =
    let s0 = state g.S.Store c.args.conn.now in
    let told = c.in-Ok-read_head.told in
    let assumed : IsAssumed c.assumed.result s0 = assumed_is (has_version c.in-Ok.shapes V3) c.assumed.result s0
    c.assumed.ensures (sym (c.in-Ok.ensures V3)) in
    let other : is_of_club told.version s0.now.schema ≡ false =
    sym (c.in-Ok.ensures told.version) ∙ sym c.has-fits.ensures ∙ c.if-fits.false in
    let read = (c.in-Ok-read_head.ensures.found clean has.club assumed).1 in
    inr (inr (inl (shape_named told.version told.meta s0 _ read other)))

pub returns-then-fits-clause-stand : goal.returns-then-fits-clause-stand
returns-then-fits-clause-stand g c clean has =
    (c.in-Ok-read_head.ensures.found clean has
    (assumed_is (has_version c.in-Ok.shapes V3) c.assumed.result (state g.S.Store c.args.conn.now) c.assumed.ensures
    (sym (c.in-Ok.ensures V3)))).0
