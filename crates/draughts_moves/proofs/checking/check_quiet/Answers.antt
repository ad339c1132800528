use Rattle.std.proofs.Common.{true, false, refl, arith, sym, ◌∙◌}
use Rattle.std.proofs.lemmas.Bool.{lt-ltb, le-ltb}
use Rattle.draughts_moves.proofs.CheckLemmas.{answer_quiet}
use Rattle.draughts_moves.proofs.MostLemmas.{IsMost-most}
use Rattle.draughts_moves.proofs.checking.check_quiet.Goals as goal

pub returns-then-not-is_step : goal.returns-then-not-is_step
returns-then-not-is_step c = answer_quiet _ _ (IsMost-most c.args.position.now) c.requires false _
    (sym c.is_step.ensures ∙ c.if-not-is_step.true) refl

pub returns-then-most-gt0 : goal.returns-then-most-gt0
returns-then-most-gt0 c = answer_quiet _ _ c.most.ensures.most c.requires true true
    (sym c.is_step.ensures ∙ c.if-not-is_step.false) (lt-ltb 0 _ c.if-most-gt0.true)

pub returns : goal.returns
returns c = answer_quiet _ _ c.most.ensures.most c.requires true false
    (sym c.is_step.ensures ∙ c.if-not-is_step.false) (le-ltb 0 _ (omega (arith, c.if-most-gt0.false)))
