use Rattle.std.proofs.Common.{◌≡◌, sym, ◌∙◌, refl, rules, tests}
use Rattle.club_requests.specs.declared.requests.Caller.TheVariants.{Officer}
use Rattle.club_core.proofs.RulingLemmas.{allowed-alone, allowed-time, refusal-shown, step-accepted, step-refused}
use Rattle.club_core.proofs.RulingLemmas.{step-repeated}
use Rattle.club_core.proofs.rulings.rule.Goals as goal

pub returns-then-is_given : goal.returns-then-is_given
returns-then-is_given g c = λ game moment shows rulings.
    let command = c.args.command.now in
    let officer : c.args.caller ≡ Officer = search (rules, tests) in
    rw (step-repeated g.R.Rules.rules game c.args.stored c.args.caller command.number moment command.ruling officer
    rulings (sym c.is_given.ensures ∙ c.if-is_given.true))
    (tt, λ times first stood. refl)

pub returns-in-Some : goal.returns-in-Some
returns-in-Some g c = λ game moment shows rulings.
    let laws = g.R.Rules.rules in
    let command = c.args.command.now in
    let officer : c.args.caller ≡ Officer = search (rules, tests) in
    let shown = refusal-shown laws game c.args.view.now c.args.stored command.number command.ruling shows rulings in
    rw (step-refused laws game c.args.stored c.args.caller command.number moment command.ruling officer rulings
    c.in-Some.refusal (sym c.is_given.ensures ∙ c.if-is_given.false) (sym shown ∙ sym c.in-Some.ensures))
    (tt, λ times first stood. refl)

pub accept_ruling-requires-clause-alone : goal.accept_ruling-requires-clause-alone
accept_ruling-requires-clause-alone g c =
    allowed-alone c.args.view.now.row.end c.args.stored c.args.command.now.number c.args.command.now.ruling
    (sym c.in-None.ensures)

pub accept_ruling-requires-clause-time : goal.accept_ruling-requires-clause-time
accept_ruling-requires-clause-time g c =
    allowed-time c.args.view.now.row.end c.args.stored c.args.command.now.number c.args.command.now.ruling
    (sym c.in-None.ensures)

pub returns : goal.returns
returns g c = λ game moment shows rulings.
    let laws = g.R.Rules.rules in
    let command = c.args.command.now in
    let officer : c.args.caller ≡ Officer = search (rules, tests) in
    let shown = refusal-shown laws game c.args.view.now c.args.stored command.number command.ruling shows rulings in
    rw (step-accepted laws game c.args.stored c.args.caller command.number moment command.ruling officer rulings
    (sym c.is_given.ensures ∙ c.if-is_given.false) (sym shown ∙ sym c.in-None.ensures))
    (c.in_ok-decision.ensures game moment shows)
