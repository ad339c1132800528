use Rattle.std.proofs.Common.{sym, ◌∙◌}
use Rattle.club_rows.proofs.rulings.may_come_next.Goals as goal

pub returns-then-not-may_follow_all-clause-complete : goal.returns-then-not-may_follow_all-clause-complete
returns-then-not-may_follow_all-clause-complete c = λ may.
    sym c.if-not-may_follow_all.true ∙ c.may_follow_all.ensures.complete (rw c.deref.ensures.value may.follows)

pub returns-clause-sound : goal.returns-clause-sound
returns-clause-sound c = λ yes. record {
  time = sym c.has_grant_time.ensures ∙ c.if-not-has_grant_time.false;
  follows = rw c.deref.ensures.value at (c.may_follow_all.ensures.sound c.if-not-may_follow_all.false);
  over_first = c.is_first_over.ensures.sound yes;
}
