use Rattle.std.proofs.Common.{◌≡◌, ◌+◌, Some, ap, sym, subst, ◌∙◌}
use Rattle.club_core.specs.declared.decided.Decision.TheVariants as decision
use Rattle.club_core.specs.Step.{game_step}
use Rattle.club_core.specs.internal.View.{HasMade}
use Rattle.club_changes.specs.internal.Steps.{IsSeenAfter}
use Rattle.club_changes.proofs.Proved.{step_done, seen_by_step}
use Rattle.club_reads.proofs.counts.seen_row_of_decision.Goals as goal

pub returns-in_ok-row-in-Some-clause-seen : goal.returns-in_ok-row-in-Some-clause-seen
returns-in_ok-row-in-Some-clause-seen g c clean content terms old moment who command k tells legal plies made =
    let laws = g.R.Rules.rules in
    let o = game_step laws terms old moment who command in
    let row = c.in_ok-row-in-Some.row in
    let all : c.args.decision.now ≡ decision.Accepted c.in-Accepted.row (Some c.in-Some.made) c.in-Accepted.answer =
    c.in-Accepted.is ∙ ap (λ x. decision.Accepted c.in-Accepted.row x c.in-Accepted.answer) c.in-Some.is in
    subst (λ d. IsSeenAfter laws c.args.game o d (Some row)) (sym all)
    (seen_by_step laws terms old moment c.args.game row c.in-Some.made
    (λ e position. c.in_ok-row-in-Some.ensures.seen clean content old e k tells position legal.plies
    (ap (λ n. n + 1) plies)) o
    (step_done laws terms old moment who command) c.in-Accepted.row c.in-Accepted.answer
    (subst (HasMade laws old o) all made))
