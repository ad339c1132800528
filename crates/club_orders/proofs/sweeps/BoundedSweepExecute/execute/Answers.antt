use Rattle.std.proofs.Common.{◌++◌, inl, refl, sym, subst, ◌∙◌, ap, arith, true≢false}
use Rattle.sqlite.specs.Held.{state}
use Rattle.sqlite.specs.State.{HasCleanDisk}
use Rattle.store_tables.proofs.Proved.{leaves_beside}
use Rattle.club_rows.specs.Club.{tables}
use Rattle.club_orders.specs.Report.{request_sessions}
use Rattle.club_orders.specs.Sweeps.{sweep_at, swept_count}
use Rattle.store.specs.Clubs.{version_with}
use Rattle.store.specs.Histories.{IsHistory, IsReachable}
use Rattle.store.proofs.Proved.{asks_served, one_cut, serves_at, still_stands, with_served}
use Rattle.club_orders.proofs.RecordedLemmas.{leaves_failed, other_fault, sessions_failed}
use Rattle.club_orders.proofs.SessionLemmas.{led_still, left_led}
use Rattle.club_orders.proofs.SweepLemmas.{bounded}
use Rattle.club_orders.proofs.TakenLemmas.{still_served}
use Rattle.club_orders.proofs.sweeps.BoundedSweepExecute.execute.Goals as goal

-- the preview read, and the club is as it was: then the sweep alone
pub returns-clause-answer : goal.returns-clause-answer
returns-clause-answer g c clean them s k =
    let before : HasCleanDisk (state g.S.Store c.preview.new.self.connection) = omega (arith, c.execute.ensures.clean, clean) in
    let now = still_served c.preview.ensures.same_schema _ _ (c.in-Ok.ensures.reads.kept refl before) k in
    let asked = c.in-Ok.ensures.answer before s (asks_served k) in
    let count = c.swept_count-count.ensures ∙ ap swept_count asked in
    bounded s c.args.moment c.args.self.now.most c.execute.result (omega (arith, count, c.if-count-self))
    (c.execute.ensures.answer clean them s now)

pub returns-clause-history : goal.returns-clause-history
returns-clause-history g c clean from them sessions at db left =
    let before : HasCleanDisk (state g.S.Store c.preview.new.self.connection) = omega (arith, c.execute.ensures.clean, clean) in
    let version = version_with c.args.club.now.has_arbiter in
    let now = still_stands from version them sessions _ _ (c.in-Ok.ensures.reads.kept refl before) at in
    let same = ap version_with c.preview.ensures.same_schema in
    let all = sessions ++ request_sessions (sweep_at c.args.moment) c.execute.result in
    subst (λ v. IsReachable from v them all db) same
    (c.execute.ensures.history clean from them sessions
    (subst (λ v. IsHistory from v them sessions (state g.S.Store c.preview.new.self.connection)) (sym same) now) db left)

pub returns-clause-next_state : goal.returns-clause-next_state
returns-clause-next_state g c clean them s k db left =
    let before : HasCleanDisk (state g.S.Store c.preview.new.self.connection) = omega (arith, c.execute.ensures.clean, clean) in
    c.execute.ensures.next_state clean them s
    (still_served c.preview.ensures.same_schema _ _ (c.in-Ok.ensures.reads.kept refl before) k) db left

-- more games are overdue: their number is reported, and nothing was written
pub returns-then-count-self-clause-answer : goal.returns-then-count-self-clause-answer
returns-then-count-self-clause-answer g c clean them s k =
    let asked = c.in-Ok.ensures.answer clean s (asks_served k) in
    (c.swept_count-count.ensures ∙ ap swept_count asked, c.if-count-self.true)

pub returns-then-count-self-clause-history : goal.returns-then-count-self-clause-history
returns-then-count-self-clause-history g c clean from them sessions at db left =
    led_still from _ them sessions db (left_led from _ them sessions _ at db (c.in-Ok.ensures.reads.may clean db left))

pub returns-then-count-self-clause-next_state : goal.returns-then-count-self-clause-next_state
returns-then-count-self-clause-next_state g c clean them s k db left =
    leaves_beside them (tables s) _ k.holds db (c.in-Ok.ensures.reads.may clean db left)

-- the preview failed, and not for the schema, in which a sweep can be recorded: nothing was written, which a request that
-- was cut off allows
pub returns-in-Err-clause-answer : goal.returns-in-Err-clause-answer
returns-in-Err-clause-answer g c clean them s k =
    other_fault c.in-Err.fault (c.in-Err.ensures.possible_faults c.requires)
    (λ is. let needs = (c.preview.ensures.other_schema (cc)).1 in true≢false (sym needs))

pub returns-in-Err-clause-history : goal.returns-in-Err-clause-history
returns-in-Err-clause-history g c clean from them sessions at db left =
    let asked = sweep_at c.args.moment in
    let version = version_with c.args.club.now.has_arbiter in
    let kept = c.in-Err.ensures.reads.may clean db left in
    sessions_failed from version them sessions asked c.in-Err.fault db (c.in-Err.ensures.possible_faults c.requires)
    (λ is. left_led from version them sessions _ at db kept)
    (one_cut asked db (with_served c.args.club.now.has_arbiter) at
    (c.requests_keep_clubs.ensures at.after asked
    (omega (arith, c.seconds-within.ensures.value, c.seconds-within.ensures.range)) refl (serves_at _ at).legal)
    (inl (leaves_beside at.exactly.before (tables at.after) _ (serves_at _ at).holds db kept)))

pub returns-in-Err-clause-next_state : goal.returns-in-Err-clause-next_state
returns-in-Err-clause-next_state g c clean them s k db left =
    let kept = leaves_beside them (tables s) _ k.holds db (c.in-Err.ensures.reads.may clean db left) in
    leaves_failed them s (sweep_at c.args.moment) c.in-Err.fault db (c.in-Err.ensures.possible_faults c.requires)
    (λ is. kept) (inl kept)
