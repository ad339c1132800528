use Rattle.std.proofs.Common.{true, false, refl, arith}
use Rattle.std.proofs.lemmas.Bool.{lt-ltb, le-ltb}
use Rattle.draughts_moves.proofs.CheckLemmas.{is_positive, answer_capture}
use Rattle.draughts_moves.proofs.MostLemmas.{IsMost-most}
use Rattle.draughts_moves.proofs.checking.check_capture.Goals as goal

pub returns-then-not-is_capture : goal.returns-then-not-is_capture
returns-then-not-is_capture c =
    answer_capture _ _ (IsMost-most c.args.position.now) (is_positive c.args.played.now.taken c.requires) false _
    (rw c.if-not-is_capture.true at c.is_capture.ensures) refl

pub returns-then-len-most : goal.returns-then-len-most
returns-then-len-most c =
    answer_capture _ _ c.most.ensures.most (is_positive c.args.played.now.taken c.requires) true true
    (rw c.if-not-is_capture.false at c.is_capture.ensures)
    (lt-ltb _ _ (omega (arith, c.len.ensures, c.if-len-most.true)))

pub returns : goal.returns
returns c =
    answer_capture _ _ c.most.ensures.most (is_positive c.args.played.now.taken c.requires) true false
    (rw c.if-not-is_capture.false at c.is_capture.ensures)
    (le-ltb _ _ (omega (arith, c.len.ensures, c.if-len-most.false)))
