use Rattle.std.proofs.Common.{◌≡◌, refl, subst, sym, ap, rules, arith, inl, inr, ◌∙◌}
use Rattle.sqlite.specs.Held.{state}
use Rattle.sqlite.specs.State.{HasCleanDisk}
use Rattle.store_tables.specs.internal.Changed.{FitsVersion}
use Rattle.club_rows.specs.Club.{tables}
use Rattle.store_tables.proofs.Proved.{beside_same, leaves_beside, left_same, still_beside}
use Rattle.store.specs.Clubs.{Asks, Kept, Serves, version_with}
use Rattle.store.proofs.LegalLemmas.{club_stays, taken_as}
use Rattle.store.proofs.HistoryLemmas.{asks_served, one_cut, one_stands, one_unserved, serves_at, stops_led, with_served}
use Rattle.store.proofs.club.Club.apply.Goals as goal

pub returns-in-Err-clause-fault : goal.returns-in-Err-clause-fault
returns-in-Err-clause-fault g c clean usable them s k db left =
    let inside = subst (λ (v : Kept _). Serves v.has_arbiter (state g.S.Store v.connection) them s) (sym c.self.view_is) k in
    inl (leaves_beside them _ _ inside.holds db (c.decide_request.ensures.reads.may clean db left))

pub returns-in-Ok-apply_changes-clause-answer : goal.returns-in-Ok-apply_changes-clause-answer
returns-in-Ok-apply_changes-clause-answer g c clean s k =
    let inside = subst (λ (v : Kept _). Asks v.has_arbiter (state g.S.Store v.connection) s) (sym c.self.view_is) k in
    (c.in-Ok.ensures.step (omega (arith, c.apply_changes.ensures.clean, clean)) s k.legal
    (c.version_of-version.ensures ∙ ap version_with inside.arbiter)
    (taken_as s _ inside.arbiter (sym c.lacks_arbiter.ensures ∙ c.if-lacks_arbiter.false)) inside.stores).answer

pub returns-in-None-clause-answer : goal.returns-in-None-clause-answer
returns-in-None-clause-answer g c clean s k =
    let inside = subst (λ (v : Kept _). Asks v.has_arbiter (state g.S.Store v.connection) s) (sym c.self.view_is) k in
    (c.in-Ok.ensures.step clean s k.legal (c.version_of-version.ensures ∙ ap version_with inside.arbiter)
    (taken_as s _ inside.arbiter (sym c.lacks_arbiter.ensures ∙ c.if-lacks_arbiter.false)) inside.stores).answer

pub returns-in-Ok-apply_changes-clause-step : goal.returns-in-Ok-apply_changes-clause-step
returns-in-Ok-apply_changes-clause-step g c clean them s k =
    let inside = subst (λ (v : Kept _). Serves v.has_arbiter (state g.S.Store v.connection) them s) (sym c.self.view_is) k in
    let decided : HasCleanDisk (state g.S.Store c.decide_request.new.conn) =
    omega (arith, c.apply_changes.ensures.clean) in
    let asks = asks_served inside in
    let is = c.version_of-version.ensures ∙ ap version_with inside.arbiter in
    let step = c.in-Ok.ensures.step decided s k.legal is
    (taken_as s _ inside.arbiter (sym c.lacks_arbiter.ensures ∙ c.if-lacks_arbiter.false))
    asks.stores in
    let same = ap version_with (sym inside.arbiter) in
    let fits = rw c.in-Some.is at step.makes.fits in
    beside_same _ _ (rw c.in-Some.is at step.makes.rows) them _
    (rw (sym same) at (c.in-Ok-apply_changes.ensures.stored clean (subst (λ v. FitsVersion v c.in-Some.changes) same fits) them (tables s)
    (k.version ∙ same) (still_beside _ _ (c.in-Ok.ensures.reads.kept refl decided) them (tables s) inside.holds)))

pub returns-in-Err-apply_changes-clause-fault : goal.returns-in-Err-apply_changes-clause-fault
returns-in-Err-apply_changes-clause-fault g c clean usable them s k db left =
    let inside = subst (λ (v : Kept _). Serves v.has_arbiter (state g.S.Store v.connection) them s) (sym c.self.view_is) k in
    let decided : HasCleanDisk (state g.S.Store c.decide_request.new.conn) =
    omega (arith, c.apply_changes.ensures.clean) in
    let asks = asks_served inside in
    let is = c.version_of-version.ensures ∙ ap version_with inside.arbiter in
    let step = c.in-Ok.ensures.step decided s k.legal is
    (taken_as s _ inside.arbiter (sym c.lacks_arbiter.ensures ∙ c.if-lacks_arbiter.false))
    asks.stores in
    let same = ap version_with (sym inside.arbiter) in
    let fits = rw c.in-Some.is at step.makes.fits in
    elim (rw (sym same) at (c.in-Err-apply_changes.ensures.fault clean (search rules) (subst (λ v. FitsVersion v c.in-Some.changes) same fits)
    them (tables s) (k.version ∙ same)
    (still_beside _ _ (c.in-Ok.ensures.reads.kept refl decided) them (tables s) inside.holds) db left))
    [ inl before ↦ inl before | inr after ↦ inr (left_same _ _ (rw c.in-Some.is at step.makes.rows) them db after) ]

pub returns-in-None-clause-step : goal.returns-in-None-clause-step
returns-in-None-clause-step g c clean them s k =
    let inside = subst (λ (v : Kept _). Serves v.has_arbiter (state g.S.Store v.connection) them s) (sym c.self.view_is) k in
    let asks = asks_served inside in
    let is = c.version_of-version.ensures ∙ ap version_with inside.arbiter in
    let step = c.in-Ok.ensures.step clean s k.legal is
    (taken_as s _ inside.arbiter (sym c.lacks_arbiter.ensures ∙ c.if-lacks_arbiter.false))
    asks.stores in
    beside_same _ _ (rw c.in-None.is at step.makes.rows) them _
    (still_beside _ _ (c.in-Ok.ensures.reads.kept refl clean) them (tables s) inside.holds)

pub returns-in-None-clause-unchanged : goal.returns-in-None-clause-unchanged
returns-in-None-clause-unchanged g c clean refused schema content k =
    c.in-Ok.ensures.reads.kept refl clean schema content (search rules)

pub returns-in-Err-clause-after_crash : goal.returns-in-Err-clause-after_crash
returns-in-Err-clause-after_crash g c clean usable from them sessions at db left =
    let serves = serves_at c.args.self.now.has_arbiter at in
    one_cut _ db (with_served c.args.self.now.has_arbiter) at
    (club_stays at.after _ (omega (arith, c.seconds-within.ensures.value, c.seconds-within.ensures.range))
    (taken_as at.after _ (subst (λ (v : Kept _). v.has_arbiter ≡ at.after.has_arbiter) (sym c.self.view_is) serves.arbiter)
    (sym c.lacks_arbiter.ensures ∙ c.if-lacks_arbiter.false)) serves.legal)
    (returns-in-Err-clause-fault g c clean usable at.exactly.before at.after serves db left)

pub returns-in-Ok-apply_changes-clause-stands : goal.returns-in-Ok-apply_changes-clause-stands
returns-in-Ok-apply_changes-clause-stands g c clean from them sessions at =
    let serves = serves_at c.args.self.now.has_arbiter at in
    one_stands _ _ (with_served c.args.self.now.has_arbiter) at
    (returns-in-Ok-apply_changes-clause-answer g c clean at.after (asks_served serves))
    (club_stays at.after _ (omega (arith, c.seconds-within.ensures.value, c.seconds-within.ensures.range))
    (taken_as at.after _ (subst (λ (v : Kept _). v.has_arbiter ≡ at.after.has_arbiter) (sym c.self.view_is) serves.arbiter)
    (sym c.lacks_arbiter.ensures ∙ c.if-lacks_arbiter.false)) serves.legal)
    (returns-in-Ok-apply_changes-clause-step g c clean at.exactly.before at.after serves)

pub returns-in-Err-apply_changes-clause-after_crash : goal.returns-in-Err-apply_changes-clause-after_crash
returns-in-Err-apply_changes-clause-after_crash g c clean usable from them sessions at db left =
    let serves = serves_at c.args.self.now.has_arbiter at in
    one_cut _ db (with_served c.args.self.now.has_arbiter) at
    (club_stays at.after _ (omega (arith, c.seconds-within.ensures.value, c.seconds-within.ensures.range))
    (taken_as at.after _ (subst (λ (v : Kept _). v.has_arbiter ≡ at.after.has_arbiter) (sym c.self.view_is) serves.arbiter)
    (sym c.lacks_arbiter.ensures ∙ c.if-lacks_arbiter.false)) serves.legal)
    (returns-in-Err-apply_changes-clause-fault g c clean usable at.exactly.before at.after serves db left)

pub returns-in-None-clause-stands : goal.returns-in-None-clause-stands
returns-in-None-clause-stands g c clean from them sessions at =
    let serves = serves_at c.args.self.now.has_arbiter at in
    one_stands _ _ (with_served c.args.self.now.has_arbiter) at
    (returns-in-None-clause-answer g c clean at.after (asks_served serves))
    (club_stays at.after _ (omega (arith, c.seconds-within.ensures.value, c.seconds-within.ensures.range))
    (taken_as at.after _ (subst (λ (v : Kept _). v.has_arbiter ≡ at.after.has_arbiter) (sym c.self.view_is) serves.arbiter)
    (sym c.lacks_arbiter.ensures ∙ c.if-lacks_arbiter.false)) serves.legal)
    (returns-in-None-clause-step g c clean at.exactly.before at.after serves)

-- ---- a command that only an arbiter can give

pub returns-then-lacks_arbiter-clause-after_crash : goal.returns-then-lacks_arbiter-clause-after_crash
returns-then-lacks_arbiter-clause-after_crash g c clean usable from them sessions at db left =
    let before : (state g.S.Store c.args.self.now.connection).may_leave db = search rules in
    stops_led from (version_with c.args.self.now.has_arbiter) them _ (state g.S.Store c.args.self.now.connection)
    (one_unserved _ (with_served c.args.self.now.has_arbiter) at) db before
