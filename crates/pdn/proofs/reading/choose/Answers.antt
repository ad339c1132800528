use Rattle.std.proofs.Common.{◌+◌, List, take, sym, subst}
use Rattle.std.proofs.lemmas.List.{take_all}
use Rattle.squares.specs.declared.draughts.moves.DMove.{DMove}
use Rattle.pdn.specs.internal.Choice.{IsChoice}
use Rattle.pdn.specs.ReadMove.{Fits}
use Rattle.pdn.proofs.ChoiceLemmas.{choice-skip, choice-join, choice-parts}
use Rattle.pdn.proofs.reading.choose.Goals as goal
use Rattle.pdn.proofs.reading.choose.Goals.{then-branch+in-Ok, else-branch}

pub returns-in-Err-clause-fault : goal.returns-in-Err-clause-fault
returns-in-Err-clause-fault c =
    choice-parts (Fits c.args.position.now c.args.from c.args.middle.now c.args.to) c.args.moves.now
    c.loop-played.played-index c.played-item.result c.loop-played-test.true c.played-item.is c.loop-played.choice
    c.in-Err.fault
    c.loop-played.invariant (c.in_ok-fits.ensures.0 c.if-branch.true) c.in-Err.ensures.err

pub loop-played-preserved : goal.loop-played-preserved
loop-played-preserved c =
    let F : DMove → Type 0 = Fits c.args.position.now c.args.from c.args.middle.now c.args.to in
    let moves : List DMove = c.args.moves.now in
    let i = c.loop-played.played-index in
    let n : DMove = c.played-item.result in
    elim c.if-branch.branch [
      | then-branch+in-Ok w ↦
          subst (IsChoice F (take (i + 1) moves)) (sym w.choice-is)
          (choice-join F moves i n c.loop-played-test.true c.played-item.is c.loop-played.choice _
          c.loop-played.invariant (c.in_ok-fits.ensures.0 w.if-branch.true) w.in-Ok.ensures.ok)
      | else-branch w ↦
          subst (IsChoice F (take (i + 1) moves)) (sym w.choice-is)
          (choice-skip F moves i n c.loop-played-test.true c.played-item.is c.loop-played.choice c.loop-played.invariant
          (λ fits. let found = c.in_ok-fits.ensures.1 fits in let none = w.if-branch.false in cc))
    ]

pub returns-clause-choice : goal.returns-clause-choice
returns-clause-choice c =
    let F : DMove → Type 0 = Fits c.args.position.now c.args.from c.args.middle.now c.args.to in
    subst (λ ms. IsChoice F ms c.loop-played.choice)
    (take_all c.loop-played.played-index c.args.moves.now c.loop-played-test.false) c.loop-played.invariant
