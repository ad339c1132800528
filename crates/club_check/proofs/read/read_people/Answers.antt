use Rattle.store_tables.proofs.Proved.{clean_before, reads_on}
use Rattle.std.proofs.Common.{sym, arith, refl}
use Rattle.sqlite.specs.Held.{state}
use Rattle.club_check.specs.RightTables.{NamesFirstDamaged}
use Rattle.club_check.specs.internal.RightTables.{NamesWrong}
use Rattle.store_tables.specs.declared.names.Table.TheVariants.{Closings, Events, EventRules, Keys, Members}
use Rattle.club_check.proofs.ArbiterLemmas.{closings_after, closings_unchanged, keys_after, keys_before, keys_unchanged}
use Rattle.club_check.proofs.ArbiterLemmas.{still_tells_events, tells_members}
use Rattle.std.specs.Prelude.{length}
use Rattle.club_audit.specs.internal.Audit.{AreRules}
use Rattle.club_check.specs.internal.ReasonIsRight.{AreRulesRead}
use Rattle.club_check.proofs.PeopleLemmas.{AreKeyed, events_right, keys_right, members_right, rules_right}
use Rattle.club_check.proofs.FirstWrong.{after_people, first_wrong, has_events, tells_events}
use Rattle.club_check.proofs.ClubLemmas.{before, meta_before, read_after, read_before, rows_blamed_before, rules_after}
use Rattle.club_check.proofs.ClubLemmas.{rules_before, rules_unchanged, stays, still, still_of}
use Rattle.club_check.proofs.ToldLemmas.{holds_in, still_in}
use Rattle.club_check.proofs.read.read_people.Goals as goal

-- ---- what was read

pub returns-in-Ok-read_closings-clause-reads : goal.returns-in-Ok-read_closings-clause-reads
returns-in-Ok-read_closings-clause-reads g c =
    reads_on c.in-Ok.ensures.reads
    (reads_on c.in-Ok-read_members.ensures.reads
    (reads_on c.in-Ok-read_keys.ensures.reads
    (reads_on c.in-Ok-read_events.ensures.reads
    (reads_on c.in-Ok-read_rules.ensures.reads c.in-Ok-read_closings.ensures.reads))))

pub returns-in-Err-read_events-clause-reads : goal.returns-in-Err-read_events-clause-reads
returns-in-Err-read_events-clause-reads g c =
    reads_on c.in-Ok.ensures.reads
    (reads_on c.in-Ok-read_members.ensures.reads
    (reads_on c.in-Ok-read_keys.ensures.reads c.in-Err-read_events.ensures.reads))

pub returns-in-Err-read_rules-clause-reads : goal.returns-in-Err-read_rules-clause-reads
returns-in-Err-read_rules-clause-reads g c =
    reads_on c.in-Ok.ensures.reads
    (reads_on c.in-Ok-read_members.ensures.reads
    (reads_on c.in-Ok-read_keys.ensures.reads
    (reads_on c.in-Ok-read_events.ensures.reads c.in-Err-read_rules.ensures.reads)))

pub returns-in-Err-read_closings-clause-reads : goal.returns-in-Err-read_closings-clause-reads
returns-in-Err-read_closings-clause-reads g c =
    reads_on c.in-Ok.ensures.reads
    (reads_on c.in-Ok-read_members.ensures.reads
    (reads_on c.in-Ok-read_keys.ensures.reads
    (reads_on c.in-Ok-read_events.ensures.reads
    (reads_on c.in-Ok-read_rules.ensures.reads c.in-Err-read_closings.ensures.reads))))

pub returns-in-Ok-read_closings-clause-rows : goal.returns-in-Ok-read_closings-clause-rows
returns-in-Ok-read_closings-clause-rows g c clean has =
    let version = c.in-Ok.told.version in
    let s0 = state g.S.Store c.args.conn.now in
    let clean4 = clean_before c.read_closings.ensures.reads clean in
    let clean3 = clean_before c.read_rules.ensures.reads clean4 in
    let clean2 = clean_before c.read_events.ensures.reads clean3 in
    let clean1 = clean_before c.read_keys.ensures.reads clean2 in
    let clean0 = clean_before c.read_members.ensures.reads clean1 in
    let (schema, one) = c.in-Ok.ensures.found clean0 has in
    let same0 = c.in-Ok.ensures.same clean0 has in
    let own = holds_in version c.in-Ok.told.meta s0 _ one schema c.in-Ok.ensures.shape in
    let are_members = c.in-Ok-read_members.ensures.rows clean1 (still same0 has.club) in
    let same1 = stays same0 are_members.same in
    let are_keys = c.in-Ok-read_keys.ensures.rows clean2 (still_of version same1 schema) are_members.same.0.is_open in
    let same2 = stays same1 (keys_unchanged version _ are_keys) in
    let are_events = c.in-Ok-read_events.ensures.rows clean3 (still same2 has.club) in
    let same3 = stays same2 are_events.same in
    let are_rules = c.in-Ok-read_rules.ensures.rules clean4 (still_of version same3 schema) are_events.same.0.is_open in
    let rules_same = rules_unchanged version _ _ are_rules in
    let same4 = stays same3 rules_same in
    let are_closings = c.in-Ok-read_closings.ensures.rows clean (still_of version same4 schema) rules_same.0.is_open in
    let after4 = closings_unchanged version _ are_closings in
    let after3 = stays rules_same after4 in
    let after2 = stays are_events.same after3 in
    let after1 = stays (keys_unchanged version _ are_keys) after2 in
    let after0 = stays are_members.same after1 in
    record {
      schema = schema;
      meta = meta_before version c.in-Ok.told.meta one after0;
      members = read_after same0 (read_before are_members after1);
      events = read_after same2 (read_before are_events after3);
      keys = keys_after version _ _ same1 (keys_before version _ _ are_keys after2);
      rules = rw (sym c.deref-2.ensures.value) (rules_after version _ _ _ same3
          (rules_before version _ _ _ are_rules after4));
      closings = closings_after version _ _ same4 are_closings;
      same = stays same0 after0;
    }

pub returns-in-Ok-read_closings-clause-stand : goal.returns-in-Ok-read_closings-clause-stand
returns-in-Ok-read_closings-clause-stand g c clean =
    let clean4 = clean_before c.read_closings.ensures.reads clean in
    let clean3 = clean_before c.read_rules.ensures.reads clean4 in
    let clean2 = clean_before c.read_events.ensures.reads clean3 in
    let clean1 = clean_before c.read_keys.ensures.reads clean2 in
    let clean0 = clean_before c.read_members.ensures.reads clean1 in
    c.in-Ok.ensures.stand clean0

pub returns-in-Ok-read_closings-clause-keys : goal.returns-in-Ok-read_closings-clause-keys
returns-in-Ok-read_closings-clause-keys g c =
    let (ms, are) = c.in-Ok-read_members.ensures.are in
    rw (sym c.deref.ensures.value) (c.in-Ok-read_keys.ensures.are ms (rw c.deref.ensures.value are))

pub returns-in-Ok-read_closings-clause-rules : goal.returns-in-Ok-read_closings-clause-rules
returns-in-Ok-read_closings-clause-rules g c =
    let (es, are) = c.in-Ok-read_events.ensures.are in
    rw (sym c.deref-2.ensures.value) (c.in-Ok-read_rules.ensures.are es (rw c.deref-2.ensures.value are))

pub returns-in-Ok-read_closings-clause-closings : goal.returns-in-Ok-read_closings-clause-closings
returns-in-Ok-read_closings-clause-closings g c =
    rw (sym c.deref-3.ensures.value) c.in-Ok-read_closings.ensures.are

-- ---- faults

pub returns-in-Err-read_members-clause-reason_is_right : goal.returns-in-Err-read_members-clause-reason_is_right
returns-in-Err-read_members-clause-reason_is_right g c clean has =
    let same0 = c.in-Ok.ensures.same (clean_before c.read_members.ensures.reads clean) has in
    rows_blamed_before c.args.oldest c.in-Err-read_members.fault same0
    (c.in-Err-read_members.ensures.reason_is_right clean (still same0 has.club))

pub returns-in-Err-read_keys-clause-reason_is_right : goal.returns-in-Err-read_keys-clause-reason_is_right
returns-in-Err-read_keys-clause-reason_is_right g c clean has =
    let version = c.in-Ok.told.version in
    let s0 = state g.S.Store c.args.conn.now in
    let clean1 = clean_before c.read_keys.ensures.reads clean in
    let clean0 = clean_before c.read_members.ensures.reads clean1 in
    let (schema, one) = c.in-Ok.ensures.found clean0 has in
    let same0 = c.in-Ok.ensures.same clean0 has in
    let own = holds_in version c.in-Ok.told.meta s0 _ one schema c.in-Ok.ensures.shape in
    let are_members = c.in-Ok-read_members.ensures.rows clean1 (still same0 has.club) in
    let same1 = stays same0 are_members.same in
    rows_blamed_before c.args.oldest c.in-Err-read_keys.fault same1
    (c.in-Err-read_keys.ensures.reason_is_right clean (still_of version same1 schema) (still_in version same1 own)
    (rw c.deref.ensures.value (tells_members _ _ _ are_members)))

pub returns-in-Err-read_events-clause-reason_is_right : goal.returns-in-Err-read_events-clause-reason_is_right
returns-in-Err-read_events-clause-reason_is_right g c clean has =
    let version = c.in-Ok.told.version in
    let s0 = state g.S.Store c.args.conn.now in
    let clean2 = clean_before c.read_events.ensures.reads clean in
    let clean1 = clean_before c.read_keys.ensures.reads clean2 in
    let clean0 = clean_before c.read_members.ensures.reads clean1 in
    let (schema, one) = c.in-Ok.ensures.found clean0 has in
    let same0 = c.in-Ok.ensures.same clean0 has in
    let own = holds_in version c.in-Ok.told.meta s0 _ one schema c.in-Ok.ensures.shape in
    let are_members = c.in-Ok-read_members.ensures.rows clean1 (still same0 has.club) in
    let same1 = stays same0 are_members.same in
    let are_keys = c.in-Ok-read_keys.ensures.rows clean2 (still_of version same1 schema) are_members.same.0.is_open in
    let same2 = stays same1 (keys_unchanged version _ are_keys) in
    rows_blamed_before c.args.oldest c.in-Err-read_events.fault same2
    (c.in-Err-read_events.ensures.reason_is_right clean (still same2 has.club))

pub returns-in-Err-read_rules-clause-reason_is_right : goal.returns-in-Err-read_rules-clause-reason_is_right
returns-in-Err-read_rules-clause-reason_is_right g c clean has =
    let version = c.in-Ok.told.version in
    let s0 = state g.S.Store c.args.conn.now in
    let clean3 = clean_before c.read_rules.ensures.reads clean in
    let clean2 = clean_before c.read_events.ensures.reads clean3 in
    let clean1 = clean_before c.read_keys.ensures.reads clean2 in
    let clean0 = clean_before c.read_members.ensures.reads clean1 in
    let (schema, one) = c.in-Ok.ensures.found clean0 has in
    let same0 = c.in-Ok.ensures.same clean0 has in
    let own = holds_in version c.in-Ok.told.meta s0 _ one schema c.in-Ok.ensures.shape in
    let are_members = c.in-Ok-read_members.ensures.rows clean1 (still same0 has.club) in
    let same1 = stays same0 are_members.same in
    let are_keys = c.in-Ok-read_keys.ensures.rows clean2 (still_of version same1 schema) are_members.same.0.is_open in
    let same2 = stays same1 (keys_unchanged version _ are_keys) in
    let are_events = c.in-Ok-read_events.ensures.rows clean3 (still same2 has.club) in
    let same3 = stays same2 are_events.same in
    let (es, are) = c.in-Ok-read_events.ensures.are in
    rows_blamed_before c.args.oldest c.in-Err-read_rules.fault same3
    (c.in-Err-read_rules.ensures.reason_is_right clean (still_of version same3 schema) es
    (rw c.deref-2.ensures.value are) (rw c.deref-2.ensures.value (has_events _ _ _ are_events)))

pub returns-in-Err-read_closings-clause-reason_is_right : goal.returns-in-Err-read_closings-clause-reason_is_right
returns-in-Err-read_closings-clause-reason_is_right g c clean has =
    let version = c.in-Ok.told.version in
    let s0 = state g.S.Store c.args.conn.now in
    let clean4 = clean_before c.read_closings.ensures.reads clean in
    let clean3 = clean_before c.read_rules.ensures.reads clean4 in
    let clean2 = clean_before c.read_events.ensures.reads clean3 in
    let clean1 = clean_before c.read_keys.ensures.reads clean2 in
    let clean0 = clean_before c.read_members.ensures.reads clean1 in
    let (schema, one) = c.in-Ok.ensures.found clean0 has in
    let same0 = c.in-Ok.ensures.same clean0 has in
    let own = holds_in version c.in-Ok.told.meta s0 _ one schema c.in-Ok.ensures.shape in
    let are_members = c.in-Ok-read_members.ensures.rows clean1 (still same0 has.club) in
    let same1 = stays same0 are_members.same in
    let are_keys = c.in-Ok-read_keys.ensures.rows clean2 (still_of version same1 schema) are_members.same.0.is_open in
    let same2 = stays same1 (keys_unchanged version _ are_keys) in
    let are_events = c.in-Ok-read_events.ensures.rows clean3 (still same2 has.club) in
    let same3 = stays same2 are_events.same in
    let are_rules = c.in-Ok-read_rules.ensures.rules clean4 (still_of version same3 schema) are_events.same.0.is_open in
    let rules_same = rules_unchanged version _ _ are_rules in
    let same4 = stays same3 rules_same in
    rows_blamed_before c.args.oldest c.in-Err-read_closings.fault same4
    (c.in-Err-read_closings.ensures.reason_is_right clean (still_of version same4 schema) (still_in version same4 own)
    (rw c.deref-3.ensures.value (still_tells_events _ rules_same (tells_events _ _ _ are_events))))

pub returns-in-Err-clause-first : goal.returns-in-Err-clause-first
returns-in-Err-clause-first g c clean has t is = absurd (c.in-Err.ensures.undamaged clean has t is)

pub returns-in-Err-read_members-clause-first : goal.returns-in-Err-read_members-clause-first
returns-in-Err-read_members-clause-first g c clean has =
    let same0 = c.in-Ok.ensures.same (clean_before c.read_members.ensures.reads clean) has in
    let e = c.in-Err-read_members.fault in
    before (λ d. NamesFirstDamaged d e) same0
    (first_wrong Members _ e (c.in-Err-read_members.ensures.wrong clean (still same0 has.club))
    (λ version content holds u low. absurd (omega (arith, low))))

pub returns-in-Err-read_keys-clause-first : goal.returns-in-Err-read_keys-clause-first
returns-in-Err-read_keys-clause-first g c clean has =
    let version = c.in-Ok.told.version in
    let s0 = state g.S.Store c.args.conn.now in
    let clean1 = clean_before c.read_keys.ensures.reads clean in
    let clean0 = clean_before c.read_members.ensures.reads clean1 in
    let (schema, one) = c.in-Ok.ensures.found clean0 has in
    let same0 = c.in-Ok.ensures.same clean0 has in
    let own = holds_in version c.in-Ok.told.meta s0 _ one schema c.in-Ok.ensures.shape in
    let are_members = c.in-Ok-read_members.ensures.rows clean1 (still same0 has.club) in
    let same1 = stays same0 are_members.same in
    let (ms, are_ms) = c.in-Ok-read_members.ensures.are in
    let e = c.in-Err-read_keys.fault in
    after_people Members Keys (omega arith) refl _ e
    (before (λ d. NamesWrong Keys d e) same1
    (c.in-Err-read_keys.ensures.wrong clean (still_of version same1 schema) (still_in version same1 own)
    (rw c.deref.ensures.value (tells_members _ _ _ are_members))))
    (members_right version s0 own _ (read_after same0 are_members).keeps ms are_ms)

pub returns-in-Err-read_events-clause-first : goal.returns-in-Err-read_events-clause-first
returns-in-Err-read_events-clause-first g c clean has =
    let version = c.in-Ok.told.version in
    let s0 = state g.S.Store c.args.conn.now in
    let clean2 = clean_before c.read_events.ensures.reads clean in
    let clean1 = clean_before c.read_keys.ensures.reads clean2 in
    let clean0 = clean_before c.read_members.ensures.reads clean1 in
    let (schema, one) = c.in-Ok.ensures.found clean0 has in
    let same0 = c.in-Ok.ensures.same clean0 has in
    let own = holds_in version c.in-Ok.told.meta s0 _ one schema c.in-Ok.ensures.shape in
    let are_members = c.in-Ok-read_members.ensures.rows clean1 (still same0 has.club) in
    let same1 = stays same0 are_members.same in
    let are_keys = c.in-Ok-read_keys.ensures.rows clean2 (still_of version same1 schema) are_members.same.0.is_open in
    let same2 = stays same1 (keys_unchanged version _ are_keys) in
    let (ms, are_ms) = c.in-Ok-read_members.ensures.are in
    let keyed : AreKeyed c.in-Ok-read_members.members.items c.in-Ok-read_keys.keys.items =
    rw (sym c.deref.ensures.value) (c.in-Ok-read_keys.ensures.are ms (rw c.deref.ensures.value are_ms)) in
    let e = c.in-Err-read_events.fault in
    after_people Keys Events (omega arith) refl _ e
    (before (λ d. NamesWrong Events d e) same2 (c.in-Err-read_events.ensures.wrong clean (still same2 has.club)))
    (keys_right version s0 own _ (read_after same0 are_members).keeps _ _ (keys_after version _ _ same1 are_keys) keyed)

pub returns-in-Err-read_rules-clause-first : goal.returns-in-Err-read_rules-clause-first
returns-in-Err-read_rules-clause-first g c clean has =
    let version = c.in-Ok.told.version in
    let s0 = state g.S.Store c.args.conn.now in
    let clean3 = clean_before c.read_rules.ensures.reads clean in
    let clean2 = clean_before c.read_events.ensures.reads clean3 in
    let clean1 = clean_before c.read_keys.ensures.reads clean2 in
    let clean0 = clean_before c.read_members.ensures.reads clean1 in
    let (schema, one) = c.in-Ok.ensures.found clean0 has in
    let same0 = c.in-Ok.ensures.same clean0 has in
    let own = holds_in version c.in-Ok.told.meta s0 _ one schema c.in-Ok.ensures.shape in
    let are_members = c.in-Ok-read_members.ensures.rows clean1 (still same0 has.club) in
    let same1 = stays same0 are_members.same in
    let are_keys = c.in-Ok-read_keys.ensures.rows clean2 (still_of version same1 schema) are_members.same.0.is_open in
    let same2 = stays same1 (keys_unchanged version _ are_keys) in
    let are_events = c.in-Ok-read_events.ensures.rows clean3 (still same2 has.club) in
    let same3 = stays same2 are_events.same in
    let (ms, are_ms) = c.in-Ok-read_members.ensures.are in
    let (es, are_es) = c.in-Ok-read_events.ensures.are in
    let keyed : AreKeyed c.in-Ok-read_members.members.items c.in-Ok-read_keys.keys.items =
    rw (sym c.deref.ensures.value) (c.in-Ok-read_keys.ensures.are ms (rw c.deref.ensures.value are_ms)) in
    let e = c.in-Err-read_rules.fault in
    let wrong = c.in-Err-read_rules.ensures.wrong clean (still_of version same3 schema)
    (rw c.deref-2.ensures.value (tells_events _ _ _ are_events)) in
    after_people Events EventRules (omega arith) refl _ e
    (before (λ d. NamesWrong EventRules d e) same3 wrong)
    (events_right version s0 own _ (read_after same0 are_members).keeps _ _ (keys_after version _ _ same1 are_keys) keyed
    _ (read_after same2 are_events).keeps es are_es)

pub returns-in-Err-read_closings-clause-first : goal.returns-in-Err-read_closings-clause-first
returns-in-Err-read_closings-clause-first g c clean has =
    let version = c.in-Ok.told.version in
    let s0 = state g.S.Store c.args.conn.now in
    let clean4 = clean_before c.read_closings.ensures.reads clean in
    let clean3 = clean_before c.read_rules.ensures.reads clean4 in
    let clean2 = clean_before c.read_events.ensures.reads clean3 in
    let clean1 = clean_before c.read_keys.ensures.reads clean2 in
    let clean0 = clean_before c.read_members.ensures.reads clean1 in
    let (schema, one) = c.in-Ok.ensures.found clean0 has in
    let same0 = c.in-Ok.ensures.same clean0 has in
    let own = holds_in version c.in-Ok.told.meta s0 _ one schema c.in-Ok.ensures.shape in
    let are_members = c.in-Ok-read_members.ensures.rows clean1 (still same0 has.club) in
    let same1 = stays same0 are_members.same in
    let are_keys = c.in-Ok-read_keys.ensures.rows clean2 (still_of version same1 schema) are_members.same.0.is_open in
    let same2 = stays same1 (keys_unchanged version _ are_keys) in
    let are_events = c.in-Ok-read_events.ensures.rows clean3 (still same2 has.club) in
    let same3 = stays same2 are_events.same in
    let are_rules = c.in-Ok-read_rules.ensures.rules clean4 (still_of version same3 schema) are_events.same.0.is_open in
    let rules_same = rules_unchanged version _ _ are_rules in
    let same4 = stays same3 rules_same in
    let (ms, are_ms) = c.in-Ok-read_members.ensures.are in
    let (es, are_es) = c.in-Ok-read_events.ensures.are in
    let keyed : AreKeyed c.in-Ok-read_members.members.items c.in-Ok-read_keys.keys.items =
    rw (sym c.deref.ensures.value) (c.in-Ok-read_keys.ensures.are ms (rw c.deref.ensures.value are_ms)) in
    let ruled : AreRules c.in-Ok-read_rules.event_rules.items (length c.in-Ok-read_events.events.items) =
    rw (sym c.deref-2.ensures.value) (c.in-Ok-read_rules.ensures.are es (rw c.deref-2.ensures.value are_es)) in
    let rules_read : AreRulesRead version c.in-Ok-read_events.events.items c.in-Ok-read_rules.event_rules.items s0
    (state g.S.Store c.read_rules.new.conn) =
    rw (sym c.deref-2.ensures.value) (rules_after version _ _ _ same3 are_rules) in
    let e = c.in-Err-read_closings.fault in
    let wrong = c.in-Err-read_closings.ensures.wrong clean (still_of version same4 schema) (still_in version same4 own)
    (rw c.deref-3.ensures.value (still_tells_events _ rules_same (tells_events _ _ _ are_events))) in
    after_people EventRules Closings (omega arith) refl _ e
    (before (λ d. NamesWrong Closings d e) same4 wrong)
    (rules_right version s0 own _ (read_after same0 are_members).keeps _ _ (keys_after version _ _ same1 are_keys) keyed
    _ (read_after same2 are_events).keeps es are_es _ _
    rules_read ruled)
