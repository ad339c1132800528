use Rattle.std.proofs.Common.{◌≡◌, Option, Some, None, ◌∙◌, refl, sym, ap}
use Rattle.std.specs.Prelude.{not, is_none, is_some}
use Rattle.draughts_moves.proofs.first_jumps.takes.Goals as goal

none-is : {A : Type 0} (o : Option A) → not (is_some o) ≡ is_none o
none-is None = refl
none-is (Some a) = refl

pub returns-then-not-contains : goal.returns-then-not-contains
returns-then-not-contains c = λ b p t met. rw (sym (met.0 c.args.over) ∙ sym c.contains.ensures ∙ c.if-not-contains.true)

pub returns-in-Some : goal.returns-in-Some
returns-in-Some c = λ b p t met.
    let prey = sym (met.0 c.args.over) ∙ sym c.contains.ensures ∙ c.if-not-contains.false in
    rw (prey, sym c.step.ensures ∙ c.in-Some.is)
    (ap not (c.contains-in-Some.ensures ∙ met.1 c.in-Some.next) ∙ none-is (b c.in-Some.next))

pub returns-in-None : goal.returns-in-None
returns-in-None c = λ b p t met.
    let prey = sym (met.0 c.args.over) ∙ sym c.contains.ensures ∙ c.if-not-contains.false in
    rw (prey, sym c.step.ensures ∙ c.in-None.is)
