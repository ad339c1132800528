use Rattle.std.proofs.Common.{arith, inl, inr, refl, ap, subst, sym, ◌∙◌}
use Rattle.std.proofs.Common.{true≢false}
use Rattle.sqlite.specs.Held.{state}
use Rattle.sqlite.specs.State.{HasCleanDisk}
use Rattle.store_tables.specs.Over.{alone}
use Rattle.store_tables.specs.Migrations.{HoldsInVersion, LeavesInVersion}
use Rattle.store_tables.specs.Tables.{IsServed}
use Rattle.store_tables.specs.declared.names.Version.TheVariants.{V3}
use Rattle.store_tables.specs.Club.{IsExactly}
use Rattle.store_tables.proofs.Proved.{alone_exactly, alone_in_version, beside_same, leaves_in_version}
use Rattle.store_tables.proofs.Proved.{left_same, still_beside, still_in_version}
use Rattle.club_rows.specs.Club.{ClubState, tables}
use Rattle.club_rows.specs.FirstSchema.{IsClubOf, tables_at, upgraded_to}
use Rattle.store.specs.Histories.{IsHistory}
use Rattle.store.specs.Upgrades.{uses_names_of}
use Rattle.store.specs.declared.upgrade_result.Upgrade.TheVariants as result
use Rattle.store.proofs.HistoryLemmas.{exactly_served, holds_in_version, opens_led, still_stands}
use Rattle.store.proofs.UpgradeLemmas.{found_stands, found_widened, left_later, none_added, not_before, serves_from}
use Rattle.store.proofs.UpgradeLemmas.{tables_later, upgrade_stays, upgraded_cut, upgraded_itself, upgraded_stands}
use Rattle.store.proofs.UpgradeLemmas.{last_reached, served_before, sooner, used_reached}
use Rattle.store.proofs.upgrades.upgrade.Goals as goal

-- ---- faults of the check

pub returns-in-Err-clause-fault : goal.returns-in-Err-clause-fault
returns-in-Err-clause-fault g c clean from them s own less is exactly db may =
    let clean1 : HasCleanDisk (state g.S.Store c.check_schemas.new.conn) =
    omega (arith, c.reason_of-fault.ensures.reads.clean, clean) in
    inl (leaves_in_version from them (tables_at from s) _ exactly db
    (c.in-Err.ensures.reads.may clean1 db (c.reason_of-fault.ensures.reads.may clean db may)))

pub returns-in-Err-clause-reason_is_right : goal.returns-in-Err-clause-reason_is_right
returns-in-Err-clause-reason_is_right g c clean told =
    let clean1 : HasCleanDisk (state g.S.Store c.check_schemas.new.conn) =
    omega (arith, c.reason_of-fault.ensures.reads.clean, clean) in
    let right = c.in-Err.ensures.reason_is_right clean1 told in
    elim c.reason_of-fault.ensures.reason [
      | inl same ↦ inl (rw (sym same) at right)
      | inr (inl (inl store), damaged) ↦ inl (inl (inl store))
      | inr (inl (inr memory), damaged) ↦ inl (inl (inr (inl memory)))
      | inr (inr (foreign, used), (t, is)) ↦ inr (record {
        foreign = foreign;
        used = sym (sym used ∙ c.uses_names_of-is_used.ensures ∙ ap (uses_names_of c.args.to) c.schema.ensures.value);
        other = λ s own holds shape. elim (c.in-Err.ensures.accepts_sound clean1 V3 s own holds shape) [
          | inl store ↦ absurd (let x = sym is ∙ store in cc)
          | inr memory ↦ absurd (let x = sym is ∙ memory in cc)
        ];
      })
    ]

pub returns-in-Err-clause-first_damaged : goal.returns-in-Err-clause-first_damaged
returns-in-Err-clause-first_damaged g c clean told t is =
    let clean1 : HasCleanDisk (state g.S.Store c.check_schemas.new.conn) =
    omega (arith, c.reason_of-fault.ensures.reads.clean, clean) in
    elim c.reason_of-fault.ensures.reason [
      | inl same ↦ c.in-Err.ensures.first clean1 told t (sym same ∙ is)
      | inr (inl (inl store), damaged) ↦ absurd (let x = sym store ∙ is in cc)
      | inr (inl (inr memory), damaged) ↦ absurd (let x = sym memory ∙ is in cc)
      | inr (inr (foreign, used), damaged) ↦ absurd (let x = sym foreign ∙ is in cc)
    ]

pub returns-in-Err-clause-after_crash : goal.returns-in-Err-clause-after_crash
returns-in-Err-clause-after_crash g c clean opens live from version them chapters is later led db may =
    let clean1 : HasCleanDisk (state g.S.Store c.check_schemas.new.conn) =
    omega (arith, c.reason_of-fault.ensures.reads.clean, clean) in
    let at = opens_led _ opens live (g.met.S.Store.settled c.args.conn.store) from version them chapters led in
    upgrade_stays version c.args.to at later
    (leaves_in_version version them (tables_at version at.after) _ at.exactly db
    (c.in-Err.ensures.reads.may clean1 db (c.reason_of-fault.ensures.reads.may clean db may)))

-- ---- a version that needs no migration

pub returns-then-is_reached-clause-done : goal.returns-then-is_reached-clause-done
returns-then-is_reached-clause-done g c clean from them s own less is exactly =
    let serves = subst IsServed (sym is) c.requires.served in
    absurd (not_before c.args.to
    (c.in-Ok.ensures.standing clean from s own (holds_in_version from them s _ serves own exactly))
    (c.is_reached.ensures.reached c.if-is_reached.true) less)

pub returns-then-is_reached-clause-already : goal.returns-then-is_reached-clause-already
returns-then-is_reached-clause-already g c clean version them s own later is k =
    let serves = serves_from c.args.to version c.requires.served later in
    let holds = tables_later version serves them s _ is k in (
      ap result.Already (c.in-Ok.ensures.standing clean version s own
          (holds_in_version version them s _ (subst IsServed (sym is) serves) own holds)),
      still_beside _ _ (c.in-Ok.ensures.reads.kept refl clean) them (tables s) k,
    )

pub returns-then-is_reached-clause-beside : goal.returns-then-is_reached-clause-beside
returns-then-is_reached-clause-beside g c used =
    ap result.Already (used_reached c.args.to c.in-Ok.found.version _ used
    (c.is_reached.ensures.reached c.if-is_reached.true))

pub returns-then-is_reached-clause-found : goal.returns-then-is_reached-clause-found
returns-then-is_reached-clause-found g c clean opened =
    let version = c.in-Ok.found.version in
    let serves = serves_from c.args.to version c.requires.served (c.is_reached.ensures.reached c.if-is_reached.true) in
    let (s, own, register, exactly) = c.in-Ok.ensures.found clean opened in (
      s,
      own,
      subst (λ (u : ClubState). IsExactly version (tables u) (state g.S.Store c.check_schemas.new.conn))
          (sym (upgraded_itself version s own)) (exactly_served version serves s exactly),
    )

pub returns-then-is_reached-clause-history : goal.returns-then-is_reached-clause-history
returns-then-is_reached-clause-history g c clean opens live from version them chapters is led =
    let found = c.in-Ok.found.version in
    let serves = serves_from c.args.to found c.requires.served (c.is_reached.ensures.reached c.if-is_reached.true) in
    let at = opens_led _ opens live (g.met.S.Store.settled c.args.conn.store) from version them chapters led in
    let same = c.in-Ok.ensures.standing clean version at.after at.legal
    (holds_in_version version them at.after _ (subst IsServed (sym is) serves) at.legal at.exactly) in (
      sym same,
      found_stands (still_stands from found them chapters _ _ (c.in-Ok.ensures.reads.kept refl clean)
          (subst (λ v. IsHistory from v them chapters (state g.S.Store c.args.conn)) (sym same) at)),
    )

-- ---- a name that is used

pub returns-then-is_used-clause-fault : goal.returns-then-is_used-clause-fault
returns-then-is_used-clause-fault g c clean from them s own less is exactly db may =
    inl (leaves_in_version from them (tables_at from s) _ exactly db (c.in-Ok.ensures.reads.may clean db may))

pub returns-then-is_used-clause-accepts_sound : goal.returns-then-is_used-clause-accepts_sound
returns-then-is_used-clause-accepts_sound g c clean version s own holds shape = inr (inr (
  refl,
  sym (sym c.if-is_used.true ∙ c.uses_names_of-is_used.ensures ∙ ap (uses_names_of c.args.to) c.schema.ensures.value),
  sooner c.args.to (c.in-Ok.ensures.standing clean version s own holds) (c.is_reached.ensures.before c.if-is_reached.false),
))

pub returns-then-is_used-clause-reason_is_right : goal.returns-then-is_used-clause-reason_is_right
returns-then-is_used-clause-reason_is_right g c clean told = inr (record {
  foreign = refl;
  used = sym (sym c.if-is_used.true ∙ c.uses_names_of-is_used.ensures ∙ ap (uses_names_of c.args.to) c.schema.ensures.value);
  other = λ s own holds shape.
      last_reached c.args.to (c.in-Ok.ensures.standing clean V3 s own holds)
      (c.is_reached.ensures.before c.if-is_reached.false);
})

pub returns-then-is_used-clause-after_crash : goal.returns-then-is_used-clause-after_crash
returns-then-is_used-clause-after_crash g c clean opens live from version them chapters is later led db may =
    let at = opens_led _ opens live (g.met.S.Store.settled c.args.conn.store) from version them chapters led in
    upgrade_stays version c.args.to at later
    (leaves_in_version version them (tables_at version at.after) _ at.exactly db (c.in-Ok.ensures.reads.may clean db may))

-- ---- a migration

pub returns-in-Ok-migrate-clause-done : goal.returns-in-Ok-migrate-clause-done
returns-in-Ok-migrate-clause-done g c clean from them s own less is exactly =
    let clean1 : HasCleanDisk (state g.S.Store c.check_schemas.new.conn) = omega (arith, c.migrate.ensures.clean, clean) in
    let found = c.in-Ok.found.version in
    let to = c.args.to in
    let holds = holds_in_version from them s _ (subst IsServed (sym is) c.requires.served) own exactly in
    let same = c.in-Ok.ensures.standing clean1 from s own holds in
    let here = subst (λ v. HoldsInVersion v them (tables_at v s) (state g.S.Store c.check_schemas.new.conn)) (sym same)
    (still_in_version _ _ (c.in-Ok.ensures.reads.kept refl clean1) from them (tables_at from s) exactly) in
    let its = subst (λ v. IsClubOf v s) (sym same) own in
    let before = c.is_reached.ensures.before c.if-is_reached.false in
    let widened = found_widened found to s its before c.in-Ok.found.rows _ _
    (c.in-Ok.ensures.rows clean1 from s own holds)
    (λ first. c.rules_to_write-rules.ensures.first first ∙ c.deref.ensures.value) c.rules_to_write-rules.ensures.later
    c.meta_in-meta.ensures in (
      ap result.Done same,
      beside_same _ _ widened them _ (c.in-Ok-migrate.ensures.stored clean c.requires.served them (tables_at found s)
          (none_added found to s its before) is here),
    )

pub returns-in-Ok-migrate-clause-already : goal.returns-in-Ok-migrate-clause-already
returns-in-Ok-migrate-clause-already g c clean version them s own later is k =
    let clean1 : HasCleanDisk (state g.S.Store c.check_schemas.new.conn) = omega (arith, c.migrate.ensures.clean, clean) in
    let serves = serves_from c.args.to version c.requires.served later in
    let holds = tables_later version serves them s _ is k in
    let same = c.in-Ok.ensures.standing clean1 version s own
    (holds_in_version version them s _ (subst IsServed (sym is) serves) own holds) in
    absurd (not_before c.args.to (sym same) later (c.is_reached.ensures.before c.if-is_reached.false))

pub returns-in-Ok-migrate-clause-beside : goal.returns-in-Ok-migrate-clause-beside
returns-in-Ok-migrate-clause-beside g c used =
    absurd (true≢false (sym used ∙ (ap (uses_names_of c.args.to) (sym c.schema.ensures.value)
    ∙ (sym c.uses_names_of-is_used.ensures ∙ c.if-is_used.false))))

pub returns-in-Ok-migrate-clause-found : goal.returns-in-Ok-migrate-clause-found
returns-in-Ok-migrate-clause-found g c clean opened =
    let clean1 : HasCleanDisk (state g.S.Store c.check_schemas.new.conn) = omega (arith, c.migrate.ensures.clean, clean) in
    let found = c.in-Ok.found.version in
    let to = c.args.to in
    let before = c.is_reached.ensures.before c.if-is_reached.false in
    let (s, own, register, exactly) = c.in-Ok.ensures.found clean1 opened in
    let here = alone_in_version found to (omega (arith, before)) (tables_at found s) _ exactly in
    let widened = found_widened found to s own before c.in-Ok.found.rows _ _ register
    (λ first. c.rules_to_write-rules.ensures.first first ∙ c.deref.ensures.value) c.rules_to_write-rules.ensures.later
    c.meta_in-meta.ensures in (
      s,
      own,
      alone_exactly to (tables (upgraded_to to s)) _
          (beside_same _ _ widened (alone to) _
          (c.in-Ok-migrate.ensures.stored clean c.requires.served (alone to) (tables_at found s)
          (none_added found to s own before) refl here)),
    )

pub returns-in-Ok-migrate-clause-history : goal.returns-in-Ok-migrate-clause-history
returns-in-Ok-migrate-clause-history g c clean opens live from version them chapters is led =
    let clean1 : HasCleanDisk (state g.S.Store c.check_schemas.new.conn) = omega (arith, c.migrate.ensures.clean, clean) in
    let to = c.args.to in
    let at = opens_led _ opens live (g.met.S.Store.settled c.args.conn.store) from version them chapters led in
    let same = c.in-Ok.ensures.standing clean1 version at.after at.legal
    (holds_in_version version them at.after _ (subst IsServed (sym is) c.requires.served) at.legal at.exactly) in
    let less = sooner to same (c.is_reached.ensures.before c.if-is_reached.false) in (
      sym same,
      upgraded_stands version to at less
          (tables_later to c.requires.served them (upgraded_to to at.after) _ is
          (returns-in-Ok-migrate-clause-done g c clean version them at.after at.legal less is at.exactly).1),
    )

-- ---- a migration that fails

pub returns-clause-fault : goal.returns-clause-fault
returns-clause-fault g c clean from them s own less is exactly db may =
    let clean1 : HasCleanDisk (state g.S.Store c.check_schemas.new.conn) = omega (arith, c.migrate.ensures.clean, clean) in
    let found = c.in-Ok.found.version in
    let to = c.args.to in
    let holds = holds_in_version from them s _ (subst IsServed (sym is) c.requires.served) own exactly in
    let same = c.in-Ok.ensures.standing clean1 from s own holds in
    let here = subst (λ v. HoldsInVersion v them (tables_at v s) (state g.S.Store c.check_schemas.new.conn)) (sym same)
    (still_in_version _ _ (c.in-Ok.ensures.reads.kept refl clean1) from them (tables_at from s) exactly) in
    let its = subst (λ v. IsClubOf v s) (sym same) own in
    let before = c.is_reached.ensures.before c.if-is_reached.false in
    let widened = found_widened found to s its before c.in-Ok.found.rows _ _
    (c.in-Ok.ensures.rows clean1 from s own holds)
    (λ first. c.rules_to_write-rules.ensures.first first ∙ c.deref.ensures.value) c.rules_to_write-rules.ensures.later
    c.meta_in-meta.ensures in
    elim (c.in-Err-migrate.ensures.fault clean c.requires.served them (tables_at found s)
    (none_added found to s its before) is here db may) [
      | inl kept ↦ inl (subst (λ v. LeavesInVersion v them (tables_at v s) db) same kept)
      | inr after ↦ inr (left_same _ _ widened them db after)
    ]

pub returns-clause-stays : goal.returns-clause-stays
returns-clause-stays g c clean is beside =
    let clean1 : HasCleanDisk (state g.S.Store c.check_schemas.new.conn) = omega (arith, c.migrate.ensures.clean, clean) in
    absurd (served_before c.in-Ok.found.version c.args.to is (c.in-Ok.ensures.newer clean1 beside)
    (c.is_reached.ensures.before c.if-is_reached.false))

pub returns-clause-untouched : goal.returns-clause-untouched
returns-clause-untouched g c used =
    absurd (true≢false (sym used ∙ (ap (uses_names_of c.args.to) (sym c.schema.ensures.value)
    ∙ (sym c.uses_names_of-is_used.ensures ∙ c.if-is_used.false))))

pub returns-clause-after_crash : goal.returns-clause-after_crash
returns-clause-after_crash g c clean opens live from version them chapters is later led db may =
    let clean1 : HasCleanDisk (state g.S.Store c.check_schemas.new.conn) = omega (arith, c.migrate.ensures.clean, clean) in
    let to = c.args.to in
    let at = opens_led _ opens live (g.met.S.Store.settled c.args.conn.store) from version them chapters led in
    let same = c.in-Ok.ensures.standing clean1 version at.after at.legal
    (holds_in_version version them at.after _ (subst IsServed (sym is) c.requires.served) at.legal at.exactly) in
    let less = sooner to same (c.is_reached.ensures.before c.if-is_reached.false) in
    elim (returns-clause-fault g c clean version them at.after at.legal less is at.exactly db may) [
      | inl kept ↦ upgrade_stays version to at later kept
      | inr made ↦ upgraded_cut version to at less (left_later to c.requires.served them (upgraded_to to at.after) db is made)
    ]
