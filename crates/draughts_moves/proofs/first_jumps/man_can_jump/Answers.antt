use Rattle.std.proofs.Common.{◌∙◌, sym}
use Rattle.draughts_moves.proofs.LineLemmas.{man_by_steps, man-takes}
use Rattle.draughts_moves.proofs.first_jumps.man_can_jump.Goals as goal

pub returns-in-Some : goal.returns-in-Some
returns-in-Some c = λ b p t met.
    c.takes.ensures b p t met
    ∙ sym (man-takes b p t c.args.toward c.args.at c.in-Some.over (sym c.step.ensures ∙ c.in-Some.is))

pub returns-in-None : goal.returns-in-None
returns-in-None c = λ b p t met. rw (man_by_steps b p t c.args.toward c.args.at, sym c.step.ensures ∙ c.in-None.is)
