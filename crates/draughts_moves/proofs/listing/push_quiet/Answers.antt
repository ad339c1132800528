use Rattle.std.proofs.Common.{sym, ◌∙◌}
use Rattle.std.proofs.lemmas.List.{append-nil}
use Rattle.draughts_moves.proofs.ListLemmas.{quiet-of_steps, quiet-none}
use Rattle.draughts_moves.proofs.StepLemmas.{is_step-none}
use Rattle.draughts_moves.proofs.listing.push_quiet.Goals as goal

pub returns-in_ok-push_steps-in-Some : goal.returns-in_ok-push_steps-in-Some
returns-in_ok-push_steps-in-Some c =
    rw (quiet-of_steps c.args.position.now c.args.square c.in-Some.piece c.steps_from-targets.result
    (sym c.own_at.ensures ∙ c.in-Some.is) c.steps_from-targets.ensures) at c.in_ok-push_steps-in-Some.ensures

pub returns-in-None : goal.returns-in-None
returns-in-None c =
    let p = c.args.position.now in
    let none = sym c.own_at.ensures ∙ c.in-None.is in
    rw (quiet-none p c.args.square (λ y. is_step-none p c.args.square y none), append-nil)
