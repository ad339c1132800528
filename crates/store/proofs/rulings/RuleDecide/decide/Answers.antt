use Rattle.std.proofs.Common.{◌≡◌, rules, tests}
use Rattle.std.specs.Prelude.{◌≢◌}
use Rattle.std.proofs.lemmas.Result.{IfOk-weaker}
use Rattle.club_requests.specs.declared.requests.Caller.TheVariants.{Officer}
use Rattle.club_rows.proofs.Proved.{in_draughts, in_shogi, stores-rows}
use Rattle.club_rows.specs.Club.{tables}
use Rattle.club_changes.proofs.Proved.{other_ruled, stored_ruled, unknown_ruled}
use Rattle.club_reads.proofs.Proved.{tells_rulings}
use Rattle.store_tables.proofs.Proved.{clean_before, reads_on, rows_after}
use Rattle.store.proofs.rulings.RuleDecide.decide.Goals as goal

pub returns-then-ne-clause-step : goal.returns-then-ne-clause-step
returns-then-ne-clause-step g c clean s is_club version taken later stored =
    let apart : c.args.caller ≢ Officer = search (rules, tests) in
    other_ruled s _ _ c.args.moment _ c.args.caller c.without_changes.result apart c.without_changes.ensures.outcome
    c.without_changes.ensures.none

pub returns-in-Some-clause-step : goal.returns-in-Some-clause-step
returns-in-Some-clause-step g c clean =
    let looked = clean_before c.by_kind-rule_on.ensures.reads clean in
    IfOk-weaker c.by_kind-rule_on.result _ _ (λ d step s is_club version taken later stored.
    let k = stores-rows s _ stored in
    let (game, at, is) = rw c.in-Some.is at c.in_ok-stored.ensures.found looked s is_club k in
    let still = rows_after c.in_ok-stored.ensures.reads looked (tables s) k in
    let there = rows_after c.in_ok-stored.ensures.reads looked (tables s) stored in
    stored_ruled in_draughts s is_club _ _ c.args.moment _ game c.in-Some.stored c.args.caller d taken at is
    c.in-Draughts-by_kind.is (λ old here tells. step (tables s) old still tells
    (tells_rulings in_draughts s _ old here is_club _ taken there)))
    (c.by_kind-rule_on.ensures.step clean)

pub returns-in-Some-2-clause-step : goal.returns-in-Some-2-clause-step
returns-in-Some-2-clause-step g c clean =
    let looked = clean_before c.by_kind-rule_on-in-Some.ensures.reads clean in
    IfOk-weaker c.by_kind-rule_on-in-Some.result _ _ (λ d step s is_club version taken later stored.
    let k = stores-rows s _ stored in
    let (game, at, is) = rw c.in-Some.is at c.in_ok-stored.ensures.found looked s is_club k in
    let still = rows_after c.in_ok-stored.ensures.reads looked (tables s) k in
    let there = rows_after c.in_ok-stored.ensures.reads looked (tables s) stored in
    stored_ruled in_shogi s is_club _ _ c.args.moment _ game c.in-Some.stored c.args.caller d taken at is
    c.in-Shogi-by_kind.is (λ old here tells. step (tables s) old still tells
    (tells_rulings in_shogi s _ old here is_club _ taken there)))
    (c.by_kind-rule_on-in-Some.ensures.step clean)

pub returns-clause-step : goal.returns-clause-step
returns-clause-step g c clean s is_club version taken later stored =
    let officer : c.args.caller ≡ Officer = search (rules, tests) in
    let k = stores-rows s _ stored in
    rw officer
    (unknown_ruled s _ _ c.args.moment _ c.without_changes-in-None.result
    (rw c.in-None.is at c.in_ok-stored.ensures.found clean s is_club k)
    c.without_changes-in-None.ensures.outcome c.without_changes-in-None.ensures.none)

pub returns-in-Some-clause-reads : goal.returns-in-Some-clause-reads
returns-in-Some-clause-reads g c = reads_on c.in_ok-stored.ensures.reads c.by_kind-rule_on.ensures.reads

pub returns-in-Some-2-clause-reads : goal.returns-in-Some-2-clause-reads
returns-in-Some-2-clause-reads g c = reads_on c.in_ok-stored.ensures.reads c.by_kind-rule_on-in-Some.ensures.reads
