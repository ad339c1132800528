use Rattle.std.proofs.Common.{refl, arith, sym, ◌∙◌, true≢false}
use Rattle.std.proofs.lemmas.Option.{slice_get_read}
use Rattle.club_audit.specs.internal.Audit.{IsOtherMember}
use Rattle.club_audit.proofs.PlacedLemmas.{below-read, below-all}
use Rattle.club_audit.proofs.people.is_taken.Goals as goal

pub returns-then-not-is_other_member-clause-taken : goal.returns-then-not-is_other_member-clause-taken
returns-then-not-is_other_member-clause-taken c = λ _ each.
    let yes = c.is_other_member.ensures.complete
    (each _ _ (slice_get_read c.args.members.now _ _ _ refl c.loop-other-test.true c.other-item.is)) in
    true≢false (sym yes ∙ c.if-not-is_other_member.true)

pub loop-other-preserved : goal.loop-other-preserved
loop-other-preserved c = below-read _ _ _ _ c.loop-other-test.true c.other-item.is c.loop-other.invariant
    (c.is_other_member.ensures.sound c.if-not-is_other_member.false)

pub returns-clause-free : goal.returns-clause-free
returns-clause-free c = λ _. below-all (λ k r. IsOtherMember c.args.member.now r) c.loop-other.other-index
    c.args.members.now (omega (arith, c.loop-other-test.false)) c.loop-other.invariant
