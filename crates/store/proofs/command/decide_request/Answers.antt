use Rattle.std.proofs.Common.{ap, sym, ◌∙◌, arith}
use Rattle.std.specs.Prelude.{max}
use Rattle.std.proofs.lemmas.Result.{IfOk-weaker}
use Rattle.club_rows.specs.Club.{tables}
use Rattle.club_rows.proofs.Proved.{stores-rows}
use Rattle.club_changes.proofs.Proved.{caller_decided, nobody_decided}
use Rattle.store_tables.proofs.Proved.{clean_before, reads_on, rows_after}
use Rattle.store.proofs.command.decide_request.Goals as goal

pub returns-in-Some-clause-step : goal.returns-in-Some-clause-step
returns-in-Some-clause-step g c clean =
    let after_caller = clean_before c.decide.ensures.reads clean in
    let after_last = clean_before c.identify_caller.ensures.reads after_caller in
    IfOk-weaker c.decide.result _ _ (λ d step s is_club version taken k.
    let kept = rows_after c.in_ok-last.ensures.reads after_last (tables s) k in
    let last = c.in_ok-last.ensures.last after_last s (stores-rows s _ k) in
    let moment = c.later.ensures ∙ ap (max c.args.moment) last in
    let caller = sym c.in-Some.is ∙ c.in_ok-caller.ensures.found after_caller s is_club version kept in
    caller_decided s c.args.moment c.later.result c.args.who.now c.in-Some.caller c.args.command.now d moment caller
    (step s is_club version taken (omega (arith, moment))
    (rows_after c.in_ok-caller.ensures.reads after_caller (tables s) kept)))
    (c.decide.ensures.step clean)

pub returns-in-None-clause-step : goal.returns-in-None-clause-step
returns-in-None-clause-step g c clean s is_club version taken k =
    let after_last = clean_before c.identify_caller.ensures.reads clean in
    let kept = rows_after c.in_ok-last.ensures.reads after_last (tables s) k in
    let caller = sym c.in-None.is ∙ c.in_ok-caller.ensures.found clean s is_club version kept in
    nobody_decided s c.args.moment c.args.who.now c.args.command.now c.without_changes.result caller
    c.without_changes.ensures.outcome c.without_changes.ensures.none

pub returns-in-Some-clause-reads : goal.returns-in-Some-clause-reads
returns-in-Some-clause-reads g c =
    reads_on c.in_ok-last.ensures.reads (reads_on c.in_ok-caller.ensures.reads c.decide.ensures.reads)

pub returns-in-None-clause-reads : goal.returns-in-None-clause-reads
returns-in-None-clause-reads g c = reads_on c.in_ok-last.ensures.reads c.in_ok-caller.ensures.reads
