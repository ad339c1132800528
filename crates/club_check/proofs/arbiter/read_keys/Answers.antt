use Rattle.std.proofs.Common.{List, inl, inr, refl, subst, sym}
use Rattle.sqlite.specs.Held.{state}
use Rattle.store_tables.specs.declared.names.Table.TheVariants.{Keys}
use Rattle.club_core.specs.Members.{Member}
use Rattle.club_audit.specs.internal.Audit.{AreMembers}
use Rattle.club_audit.specs.internal.KeyAudit.{AreKeysOf}
use Rattle.club_check.proofs.ArbiterLemmas.{key_types_wrong, keys_named, keys_wrong}
use Rattle.club_check.proofs.FirstWrong.{named_wrong, rows_named}
use Rattle.club_check.proofs.PeopleLemmas.{without_keys}
use Rattle.club_check.proofs.StoredLemmas.{keys_stand}
use Rattle.club_check.proofs.arbiter.read_keys.Goals as goal

-- ---- a version without the table

pub returns-in-V1-clause-are : goal.returns-in-V1-clause-are
returns-in-V1-clause-are g c = λ ms are.
    let rows = c.args.members.now in
    subst (λ l. (keyed : List Member) × AreMembers keyed rows × AreKeysOf keyed l) (sym c.new.ensures.items)
    (without_keys ms rows are)

pub returns-in-V2-clause-are : goal.returns-in-V2-clause-are
returns-in-V2-clause-are g c = λ ms are.
    let rows = c.args.members.now in
    subst (λ l. (keyed : List Member) × AreMembers keyed rows × AreKeysOf keyed l) (sym c.new-in-V2.ensures.items)
    (without_keys ms rows are)

-- ---- schema 3

pub returns-in-Err-clause-wrong : goal.returns-in-Err-clause-wrong
returns-in-Err-clause-wrong g c clean has one told =
    key_types_wrong (state g.S.Store c.args.conn.now) (rw c.in-V3.is at one) c.in-Err.fault
    (c.in-Err.ensures.reason_is_right clean (keys_stand _ (rw c.in-V3.is at has)))

pub returns-in-Err-clause-reason_is_right : goal.returns-in-Err-clause-reason_is_right
returns-in-Err-clause-reason_is_right g c clean has one told =
    inl (keys_named (state g.S.Store c.args.conn.now) (rw c.in-V3.is at one) c.in-Err.fault
    (c.in-Err.ensures.reason_is_right clean (keys_stand _ (rw c.in-V3.is at has))))

pub returns-in-Ok-false-clause-wrong : goal.returns-in-Ok-false-clause-wrong
returns-in-Ok-false-clause-wrong g c clean has one told =
    let s0 = state g.S.Store c.args.conn.now in
    named_wrong Keys s0.now
    (keys_wrong s0 (state g.S.Store c.read.new.conn) (rw c.in-V3.is at one) c.args.members.now c.in-Ok.keys.items told
    (c.in-Ok.ensures.rows clean (keys_stand _ (rw c.in-V3.is at has)))
    (λ ms are own.
    let yes = c.in-Ok-false.ensures.complete ms are (subst (AreKeysOf ms) (sym c.deref.ensures.value) own) in
    let no = c.in-Ok-false.field-0-test in
    absurd cc))

pub returns-in-Ok-false-clause-reason_is_right : goal.returns-in-Ok-false-clause-reason_is_right
returns-in-Ok-false-clause-reason_is_right g c clean has one told =
    inr (rows_named Keys _ (returns-in-Ok-false-clause-wrong g c clean has one told Keys refl).1)
