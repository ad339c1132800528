use Rattle.std.proofs.Common.{refl, arith, sym, ◌∙◌}
use Rattle.std.proofs.lemmas.Option.{slice_get_read}
use Rattle.club_audit.specs.internal.Audit.{IsMemberAt}
use Rattle.club_audit.proofs.PeopleLemmas.{members-from, members-count, members-at}
use Rattle.club_audit.proofs.PlacedLemmas.{below-read, below-all}
use Rattle.club_audit.proofs.people.are_members.Goals as goal

pub returns-then-members-gt-MOST_MEMBERS-clause-complete : goal.returns-then-members-gt-MOST_MEMBERS-clause-complete
returns-then-members-gt-MOST_MEMBERS-clause-complete c = λ xs are.
    let few = members-count xs c.args.members.now are in
    absurd (omega (arith, few))

pub returns-then-not-is_member-clause-complete : goal.returns-then-not-is_member-clause-complete
returns-then-not-is_member-clause-complete c = λ xs are.
    sym c.if-not-is_member.true ∙ c.is_member.ensures.complete (members-at xs _ are _ _
    (slice_get_read c.args.members.now _ _ _ refl c.loop-place-test.true c.index-members-place.is))

pub loop-place-preserved : goal.loop-place-preserved
loop-place-preserved c = below-read _ _ _ _ c.loop-place-test.true c.index-members-place.is c.loop-place.invariant
    (c.is_member.ensures.sound c.if-not-is_member.false)

pub returns-clause-sound : goal.returns-clause-sound
returns-clause-sound c = λ _.
    members-from c.args.members.now (omega (arith, c.if-members-gt-MOST_MEMBERS.false))
    (below-all (IsMemberAt c.args.members.now) c.loop-place.place c.args.members.now
    (omega (arith, c.loop-place-test.false)) c.loop-place.invariant)
