use Rattle.std.proofs.Common.{subst, sym}
use Rattle.sqlite.specs.Effect.{Database}
use Rattle.sqlite.specs.Held.{state}
use Rattle.store_tables.proofs.Proved.{clean_before, only_reading, reads_on, reads_then}
use Rattle.store_tables.specs.declared.names.Version.TheVariants.{V2}
use Rattle.club_check.specs.Versions.{HasClub, HasToldTables}
use Rattle.club_check.specs.internal.RightTables.{NamesExamined}
use Rattle.club_check.proofs.ClubLemmas.{before, good_taken, have_ids, stays}
use Rattle.club_check.proofs.ExaminedLemmas.{examined_before, ruling_count, still_counted}
use Rattle.club_check.proofs.PeopleLemmas.{has_people, people_right}
use Rattle.club_check.proofs.PlayedLemmas.{club_read, first_examined}
use Rattle.club_check.proofs.StoredClub.{club_exactly, examined_club, play_blamed}
use Rattle.club_check.proofs.ToldLemmas.{alone_told, holds_in, newer_served, tables_told}
use Rattle.club_check.proofs.opening.check_since.Goals as goal

-- ---- a club that is accepted

pub returns-in-Ok-examine_rows-clause-stays : goal.returns-in-Ok-examine_rows-clause-stays
returns-in-Ok-examine_rows-clause-stays g c clean has =
    let clean1 = clean_before c.examine_rows.ensures.reads clean in
    let version = c.in-Ok.found.register.version in
    let (own, read) = c.in-Ok.ensures.rows clean1 has in
    let count = ruling_count version c.in-Ok.found.rulings _ _ own (c.in-Ok.ensures.rulings clean1 has) in
    let all = c.in-Ok-examine_rows.ensures.found clean version
    (still_counted version c.in-Ok.found.rulings read.same count) in
    (own, stays read.same all.play.same)

pub returns-in-Ok-examine_rows-clause-held : goal.returns-in-Ok-examine_rows-clause-held
returns-in-Ok-examine_rows-clause-held g c clean has sound =
    let clean1 = clean_before c.examine_rows.ensures.reads clean in
    let register = c.in-Ok.found.register in
    let version = register.version in
    let (own, read) = c.in-Ok.ensures.rows clean1 has in
    let counted = c.in-Ok.ensures.rulings clean1 has in
    let count = ruling_count version c.in-Ok.found.rulings _ _ own counted in
    let all = c.in-Ok-examine_rows.ensures.found clean version
    (still_counted version c.in-Ok.found.rulings read.same count) in
    let (es, are_es) = c.in-Ok.ensures.events in
    let (known, people) = has_people register.rows c.in-Ok.ensures.keys es are_es c.in-Ok.ensures.rules
    c.in-Ok.ensures.closings in
    let (s, club, its, holds) =
    examined_club version (examined_before register.rows version read.same all) own sound read known people
    c.in-Ok.found.rulings counted in (
      s,
      club,
      its,
      subst (λ (d : Database). HasClub version d s)
          (sym (stays read.same all.play.same).0.now_is) holds,
    )

pub returns-in-Ok-examine_rows-clause-found : goal.returns-in-Ok-examine_rows-clause-found
returns-in-Ok-examine_rows-clause-found g c clean opened =
    let s0 = state g.S.Store c.args.conn.now in
    let s1 = state g.S.Store c.read_rows.new.conn in
    let s3 = state g.S.Store c.examine_rows.new.conn in
    let version = c.in-Ok.found.register.version in
    let has : HasToldTables s0.now = alone_told version s0.now opened.schema in
    let (own, unchanged) = returns-in-Ok-examine_rows-clause-stays g c clean has in
    let reads = reads_then s0 s1 s3 (only_reading _ s0 s1 c.read_rows.ensures.reads)
    (only_reading _ s1 s3 c.examine_rows.ensures.reads) in
    let (s, club, register, holds) = returns-in-Ok-examine_rows-clause-held g c clean has opened.sound in (
      s,
      club,
      register,
      club_exactly version s s0 s3 opened (before (λ d. HasClub version d s) unchanged holds) unchanged (reads.may clean),
    )

pub returns-in-Ok-examine_rows-clause-rows : goal.returns-in-Ok-examine_rows-clause-rows
returns-in-Ok-examine_rows-clause-rows g c clean v s club holds =
    let clean1 = clean_before c.examine_rows.ensures.reads clean in
    let s0 = state g.S.Store c.args.conn.now in
    let register = c.in-Ok.found.register in
    let (own, read) = c.in-Ok.ensures.rows clean1 (tables_told v s club s0.now holds) in
    club_read register.version v s club register.rows s0 _
    (holds_in register.version register.rows.meta s0 _ read.meta own c.in-Ok.ensures.shape) holds read

pub returns-in-Ok-examine_rows-clause-standing : goal.returns-in-Ok-examine_rows-clause-standing
returns-in-Ok-examine_rows-clause-standing g c clean v s club holds =
    let clean1 = clean_before c.examine_rows.ensures.reads clean in
    let s0 = state g.S.Store c.args.conn.now in
    let register = c.in-Ok.found.register in
    let (own, read) = c.in-Ok.ensures.rows clean1 (tables_told v s club s0.now holds) in
    sym (holds_in register.version register.rows.meta s0 _ read.meta own c.in-Ok.ensures.shape v _ holds)

pub returns-in-Ok-examine_rows-clause-newer : goal.returns-in-Ok-examine_rows-clause-newer
returns-in-Ok-examine_rows-clause-newer g c clean has =
    newer_served c.in-Ok.found.register.version (state g.S.Store c.args.conn.now).now.schema has
    (c.in-Ok.ensures.stand (clean_before c.examine_rows.ensures.reads clean) (V2, has))

pub returns-in-Ok-examine_rows-clause-reads : goal.returns-in-Ok-examine_rows-clause-reads
returns-in-Ok-examine_rows-clause-reads g c = reads_on c.in-Ok.ensures.reads c.in-Ok-examine_rows.ensures.reads

-- ---- a fault of the rows that were examined

pub returns-in-Err-examine_rows-clause-reads : goal.returns-in-Err-examine_rows-clause-reads
returns-in-Err-examine_rows-clause-reads g c = reads_on c.in-Ok.ensures.reads c.in-Err-examine_rows.ensures.reads

pub returns-in-Err-examine_rows-clause-reason_is_right : goal.returns-in-Err-examine_rows-clause-reason_is_right
returns-in-Err-examine_rows-clause-reason_is_right g c clean has =
    let clean1 = clean_before c.examine_rows.ensures.reads clean in
    let s0 = state g.S.Store c.args.conn.now in
    let register = c.in-Ok.found.register in
    let version = register.version in
    let (own, read) = c.in-Ok.ensures.rows clean1 has in
    let count = ruling_count version c.in-Ok.found.rulings _ _ own (c.in-Ok.ensures.rulings clean1 has) in
    let one = holds_in version register.rows.meta s0 _ read.meta own c.in-Ok.ensures.shape in
    play_blamed c.args.oldest version register.rows s0 _ _ c.in-Err-examine_rows.fault one read read.same
    (c.in-Err-examine_rows.ensures.reason_is_right clean version
    (still_counted version c.in-Ok.found.rulings read.same count))

pub returns-in-Err-examine_rows-clause-first : goal.returns-in-Err-examine_rows-clause-first
returns-in-Err-examine_rows-clause-first g c clean has =
    let clean1 = clean_before c.examine_rows.ensures.reads clean in
    let s0 = state g.S.Store c.args.conn.now in
    let register = c.in-Ok.found.register in
    let rows = register.rows in
    let version = register.version in
    let e = c.in-Err-examine_rows.fault in
    let (own, read) = c.in-Ok.ensures.rows clean1 has in
    let count = ruling_count version c.in-Ok.found.rulings _ _ own (c.in-Ok.ensures.rulings clean1 has) in
    let one = holds_in version rows.meta s0 _ read.meta own c.in-Ok.ensures.shape in
    let (es, are_es) = c.in-Ok.ensures.events in
    let (s, all) = has_people rows c.in-Ok.ensures.keys es are_es c.in-Ok.ensures.rules c.in-Ok.ensures.closings in
    let right = people_right version s0 one _ read.members.keeps _ _ read.keys c.in-Ok.ensures.keys _ read.events.keeps es
    are_es _ _ read.rules c.in-Ok.ensures.rules _ _ read.closings c.in-Ok.ensures.closings in
    let blamed = returns-in-Err-examine_rows-clause-reason_is_right g c clean has in
    let names = before (λ d. NamesExamined rows version d e) read.same
    (c.in-Err-examine_rows.ensures.examined clean version
    (still_counted version c.in-Ok.found.rulings read.same count) s all.people (have_ids _ rows _ _ read)) in
    first_examined rows version s0 _ read one s all right e c.args.oldest blamed names

pub returns-in-Err-examine_rows-clause-accepts_sound : goal.returns-in-Err-examine_rows-clause-accepts_sound
returns-in-Err-examine_rows-clause-accepts_sound g c clean v s club holds shape taken =
    good_taken c.args.oldest v s club _ holds shape taken c.in-Err-examine_rows.fault
    (returns-in-Err-examine_rows-clause-reason_is_right g c clean (tables_told v s club _ holds))

-- ---- a fault of the rows that are read whole

pub returns-in-Err-clause-accepts_sound : goal.returns-in-Err-clause-accepts_sound
returns-in-Err-clause-accepts_sound g c clean v s club holds shape taken =
    good_taken c.args.oldest v s club _ holds shape taken c.in-Err.fault
    (c.in-Err.ensures.reason_is_right clean (tables_told v s club _ holds))
