use Rattle.std.proofs.Common.{◌∙◌, sym}
use Rattle.draughts_moves.proofs.CountLemmas.{count-none, count-steps}
use Rattle.draughts_moves.proofs.counting.count_from.Goals as goal

pub returns-in-Some : goal.returns-in-Some
returns-in-Some c =
    c.len.ensures
    ∙ count-steps c.args.position.now c.args.square c.in-Some.piece (sym c.own_at.ensures ∙ c.in-Some.is)
    c.steps_from-targets.result c.steps_from-targets.ensures

pub returns-in-None : goal.returns-in-None
returns-in-None c = sym (count-none c.args.position.now c.args.square (sym c.own_at.ensures ∙ c.in-None.is))
