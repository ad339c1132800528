use Rattle.std.proofs.Common.{ℕ, ap, sym, subst, ◌∙◌}
use Rattle.club_core.specs.declared.challenges.Challenge.{Challenge}
use Rattle.club_core.specs.Challenges.{challenge_by, challenge_under, withdrawal_step}
use Rattle.club_requests.specs.Outcome.{Outcome, map_outcome}
use Rattle.club_core.specs.State.{with_challenge}
use Rattle.club_changes.specs.internal.Steps.{IsDecided}
use Rattle.club_changes.proofs.Proved.{member_mapped, member_same}
use Rattle.club_rows.proofs.Proved.{stores-rows}
use Rattle.store.proofs.challenges.WithdrawDecide.decide.Goals as goal

pub returns-clause-step : goal.returns-clause-step
returns-clause-step g c clean s is_club version taken later k =
    let under = c.in_ok-under.ensures.found clean s is_club (stores-rows s _ k) in
    let number = c.args.self.now.number in
    let f = with_challenge s c.args.moment in
    let wanted : ℕ → Outcome Challenge = λ m. withdrawal_step (challenge_under s.challenges m number) in
    let same = member_same c.args.caller _ wanted
    (λ id is. ap withdrawal_step (under ∙ ap (λ o. challenge_by s.challenges o number) (c.member_id.ensures id is)))
    in
    subst (λ o. IsDecided s o c.in_ok-put_challenge.field-0) (ap (map_outcome f) (c.withdraw.ensures ∙ same)
    ∙ sym (member_mapped f c.args.caller wanted)) (c.in_ok-put_challenge.ensures.step s is_club)
