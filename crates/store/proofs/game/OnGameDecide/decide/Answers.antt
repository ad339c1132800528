use Rattle.std.proofs.Common.{◌∙◌, ap}
use Rattle.std.proofs.lemmas.Result.{IfOk-weaker}
use Rattle.club_requests.specs.declared.answers.Outcome.TheVariants as given_is
use Rattle.club_rows.proofs.Proved.{in_draughts, in_shogi, stores-rows}
use Rattle.club_rows.specs.Club.{tables}
use Rattle.club_changes.proofs.Proved.{stored_decided, unknown_decided}
use Rattle.club_reads.proofs.Proved.{tells_verdict}
use Rattle.store_tables.proofs.Proved.{clean_before, reads_on, rows_after}
use Rattle.store.proofs.game.OnGameDecide.decide.Goals as goal

pub returns-in-Some-clause-step : goal.returns-in-Some-clause-step
returns-in-Some-clause-step g c clean =
    let looked = clean_before c.by_kind-act.ensures.reads clean in
    IfOk-weaker c.by_kind-act.result _ _ (λ d step s is_club version taken later stored.
    let k = stores-rows s _ stored in
    let (game, at, is) = rw c.in-Some.is at c.in_ok-stored.ensures.found looked s is_club k in
    let still = rows_after c.in_ok-stored.ensures.reads looked (tables s) stored in
    stored_decided in_draughts s is_club _ game c.in-Some.stored c.args.moment c.args.caller _ d later at is
    c.in-Draughts-by_kind.is (λ old here tells plays. step (tables s) old (stores-rows s _ still) tells plays
    (tells_verdict in_draughts s c.in-Some.stored.id old here is_club _ still)))
    (c.by_kind-act.ensures.step clean)

pub returns-in-Some-2-clause-step : goal.returns-in-Some-2-clause-step
returns-in-Some-2-clause-step g c clean =
    let looked = clean_before c.by_kind-act-in-Some.ensures.reads clean in
    IfOk-weaker c.by_kind-act-in-Some.result _ _ (λ d step s is_club version taken later stored.
    let k = stores-rows s _ stored in
    let (game, at, is) = rw c.in-Some.is at c.in_ok-stored.ensures.found looked s is_club k in
    let still = rows_after c.in_ok-stored.ensures.reads looked (tables s) stored in
    stored_decided in_shogi s is_club _ game c.in-Some.stored c.args.moment c.args.caller _ d later at is
    c.in-Shogi-by_kind.is (λ old here tells plays. step (tables s) old (stores-rows s _ still) tells plays
    (tells_verdict in_shogi s c.in-Some.stored.id old here is_club _ still)))
    (c.by_kind-act-in-Some.ensures.step clean)

pub returns-clause-step : goal.returns-clause-step
returns-clause-step g c clean s is_club version taken later stored =
    let k = stores-rows s _ stored in
    unknown_decided s _ c.args.moment c.args.caller _ c.without_changes.result
    (rw c.in-None.is at c.in_ok-stored.ensures.found clean s is_club k)
    (c.without_changes.ensures.outcome ∙ ap given_is.Refused c.refusal_without_game-refusal.ensures) c.without_changes.ensures.none

pub returns-in-Some-clause-reads : goal.returns-in-Some-clause-reads
returns-in-Some-clause-reads g c = reads_on c.in_ok-stored.ensures.reads c.by_kind-act.ensures.reads

pub returns-in-Some-2-clause-reads : goal.returns-in-Some-2-clause-reads
returns-in-Some-2-clause-reads g c = reads_on c.in_ok-stored.ensures.reads c.by_kind-act-in-Some.ensures.reads
