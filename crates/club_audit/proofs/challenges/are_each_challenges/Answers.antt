use Rattle.std.proofs.Common.{arith, sym, ◌∙◌}
use Rattle.club_audit.specs.internal.ChallengeAudit.{IsChallengeOf}
use Rattle.std.proofs.lemmas.Option.{slice_get-get_or}
use Rattle.club_audit.proofs.PlacedLemmas.{below-more, below-all}
use Rattle.club_audit.proofs.challenges.are_each_challenges.Goals as goal

pub returns-then-not-is_challenge_row-clause-complete : goal.returns-then-not-is_challenge_row-clause-complete
returns-then-not-is_challenge_row-clause-complete c = λ each.
    let at = slice_get-get_or c.args.challenges.now c.loop-row.row-index _ c.loop-row-test.true in
    sym c.if-not-is_challenge_row.true ∙ c.is_challenge_row.ensures.complete (each c.loop-row.row-index _ at)

pub loop-row-preserved : goal.loop-row-preserved
loop-row-preserved c =
    below-more _ _ c.args.challenges.now _ (slice_get-get_or _ _ _ c.loop-row-test.true) c.loop-row.invariant
    (c.is_challenge_row.ensures.sound c.if-not-is_challenge_row.false)

pub returns-clause-sound : goal.returns-clause-sound
returns-clause-sound c = λ _. below-all (λ k r. IsChallengeOf c.args.rows.now r) c.loop-row.row-index
    c.args.challenges.now (omega (arith, c.loop-row-test.false)) c.loop-row.invariant
