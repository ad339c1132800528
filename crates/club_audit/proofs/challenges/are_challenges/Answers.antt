use Rattle.std.proofs.Common.{not, sym, ap, inl, inr, ◌∙◌}
use Rattle.std.proofs.lemmas.Bool.{cases_Bool, not-true}
use Rattle.club_audit.proofs.ChallengeLemmas.{challenges-are, each-shown, numbers-apart}
use Rattle.club_audit.proofs.challenges.are_challenges.Goals as goal

pub returns-then-not-are_each_challenges-clause-complete :
    goal.returns-then-not-are_each_challenges-clause-complete
returns-then-not-are_each_challenges-clause-complete c = λ members events cs are.
    sym c.if-not-are_each_challenges.true ∙ c.are_each_challenges.ensures.complete
    (rw c.deref.ensures.value (each-shown c.args.rows.now cs are members events))

pub returns-clause-sound : goal.returns-clause-sound
returns-clause-sound c = λ are.
    challenges-are c.args.rows.now
    (rw c.deref.ensures.value at (c.are_each_challenges.ensures.sound c.if-not-are_each_challenges.false))
    (rw c.deref-2.ensures.value at (c.in_ok-shared.ensures.apart (not-true c.in_ok-shared.shared are)))

pub returns-clause-complete : goal.returns-clause-complete
returns-clause-complete c = λ members events cs are.
    elim (cases_Bool c.in_ok-shared.shared) [
      | inl shared ↦
          absurd (c.in_ok-shared.ensures.shared shared
          (rw c.deref-2.ensures.value (numbers-apart c.args.rows.now cs are)))
      | inr apart ↦ ap not apart
    ]
