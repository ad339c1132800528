use Rattle.std.proofs.Common.{ap, inl, inr, sym, ◌∙◌, true≢false}
use Rattle.std.specs.Prelude.{not}
use Rattle.std.proofs.lemmas.Bool.{cases_Bool, not-true}
use Rattle.club_audit.proofs.LaterKeys.{keyed-of, keys-differ, keys-in-order}
use Rattle.club_audit.proofs.keys.are_keys.Goals as goal

pub returns-then-not-are_numbered-clause-complete : goal.returns-then-not-are_numbered-clause-complete
returns-then-not-are_numbered-clause-complete c = λ ms are own.
    let yes = c.are_numbered.ensures.complete (keys-in-order ms c.args.members.now c.args.keys.now are own) in
    absurd (true≢false (sym yes ∙ c.if-not-are_numbered.true))

pub returns-clause-sound : goal.returns-clause-sound
returns-clause-sound c = λ is ms are.
    keyed-of ms c.args.members.now c.args.keys.now are (c.are_numbered.ensures.sound c.if-not-are_numbered.false)
    (c.in_ok-shared.ensures.apart (not-true _ is))

pub returns-clause-complete : goal.returns-clause-complete
returns-clause-complete c = λ ms are own.
    let differ = keys-differ ms c.args.members.now c.args.keys.now are own in
    elim (cases_Bool c.in_ok-shared.shared) [
      | inl shared ↦ absurd (c.in_ok-shared.ensures.shared shared differ)
      | inr apart ↦ ap not apart
    ]
