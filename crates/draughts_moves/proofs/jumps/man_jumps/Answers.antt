use Rattle.std.proofs.Common.{rules, ◌≡◌, true, false, ◌∙◌, sym}
use Rattle.std.proofs.lemmas.List.{append-nil}
use Rattle.draughts_moves.proofs.LineLemmas.{man_by_steps, some-is_none, not_some-is_none}
use Rattle.draughts_moves.proofs.jumps.man_jumps.Goals as goal

pub returns-in-None-clause-added : goal.returns-in-None-clause-added
returns-in-None-clause-added c = λ b p t met.
    let a = c.args in
    rw (man_by_steps b p t a.toward a.at, sym c.step.ensures ∙ c.in-None.is, append-nil)

pub returns-in-None-step-clause-added : goal.returns-in-None-step-clause-added
returns-in-None-step-clause-added c = λ b p t met.
    let a = c.args in
    let prey = sym (met.0 c.in-Some.over) ∙ sym c.contains.ensures ∙ c.if-contains.true in
    rw (man_by_steps b p t a.toward a.at, sym c.step.ensures ∙ c.in-Some.is, prey)
    (rw (sym c.step-then-contains.ensures ∙ c.in-None-step.is, append-nil))

pub returns-then-not-contains-clause-added : goal.returns-then-not-contains-clause-added
returns-then-not-contains-clause-added c = λ b p t met.
    let a = c.args in
    let to = c.in-Some-step.to in
    let free : c.contains-in-Some-step.result ≡ false = search rules in
    let prey = sym (met.0 c.in-Some.over) ∙ sym c.contains.ensures ∙ c.if-contains.true in
    rw (man_by_steps b p t a.toward a.at, sym c.step.ensures ∙ c.in-Some.is, prey)
    (rw (sym c.step-then-contains.ensures ∙ c.in-Some-step.is)
    (rw (not_some-is_none (b to) (sym (met.1 to) ∙ sym c.contains-in-Some-step.ensures ∙ free)) c.push.ensures))

pub returns-else-not-contains-clause-added : goal.returns-else-not-contains-clause-added
returns-else-not-contains-clause-added c = λ b p t met.
    let a = c.args in
    let to = c.in-Some-step.to in
    let there : c.contains-in-Some-step.result ≡ true = search rules in
    let prey = sym (met.0 c.in-Some.over) ∙ sym c.contains.ensures ∙ c.if-contains.true in
    rw (man_by_steps b p t a.toward a.at, sym c.step.ensures ∙ c.in-Some.is, prey)
    (rw (sym c.step-then-contains.ensures ∙ c.in-Some-step.is)
    (rw (some-is_none (b to) (sym (met.1 to) ∙ sym c.contains-in-Some-step.ensures ∙ there), append-nil)))

pub returns-else-contains-clause-added : goal.returns-else-contains-clause-added
returns-else-contains-clause-added c = λ b p t met.
    let a = c.args in
    let none = sym (met.0 c.in-Some.over) ∙ sym c.contains.ensures ∙ c.if-contains.false in
    rw (man_by_steps b p t a.toward a.at, sym c.step.ensures ∙ c.in-Some.is, none) (rw append-nil)
